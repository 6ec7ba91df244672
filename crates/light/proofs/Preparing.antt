-- Planes whose numbers were found stand together for their lines.
use mathlib.Core.Path.{◌≡◌, sym, ap, subst, ◌∙◌}
use Prim.Native.Nat.{◌*◌, ◌≤◌}
use native.Mathlib.Nat.{one-mul}
use native.Mathlib.Omega.{arith}
use Rattle.levels.specs.declared.lines.Lines.{Lines}
use Rattle.runs.specs.Found.{RunsFound, Mixes}
use Rattle.runs.specs.Light.{light_by, blue_by, red_by, mix_of, Weighs}
use Rattle.runs.specs.declared.Runs.{Runs}
use Rattle.runs.specs.declared.mix.Mix.{Mix}
use Rattle.runs.proofs.Mixing.{bias_in, weighs}
use Rattle.light.specs.Light.{Plane, Stands}
use Rattle.light.specs.Scaled.{Scales}
use Rattle.light.specs.declared.scaled.Light.{Light}

-- weights that are taken once
module _ {lines : Lines} {r : Runs} (f : RunsFound lines r) where
  pub mixes : Mixes r 1
  mixes = let a = f.all_in in record { sum = f.sum; bias_is = f.bias_is; all_in = omega arith; most_in = f.most_in }

  pub bias_few : r.bias ≤ 65535 * 4095
  bias_few = let b = bias_in r.all r.most f.all_in f.most_in in let is = f.bias_is in omega arith

  once : mix_of r 1 ≡ record { kr = r.kr; kg = r.kg; kb = r.kb; all = r.all; most = r.most; bias = r.bias }
  once = λ i. record {
    kr = one-mul r.kr i;
    kg = one-mul r.kg i;
    kb = one-mul r.kb i;
    all = one-mul r.all i;
    most = r.most;
    bias = one-mul r.bias i;
  }

  -- their sum and the largest light are what they are named for
  pub weighs_once : {m : Mix} → m ≡ mix_of r 1 → Weighs m
  weighs_once e = subst Weighs (sym e) (weighs mixes)

  pub bias_once : {m : Mix} → m ≡ mix_of r 1 → m.bias ≡ r.bias
  bias_once e = ap (λ m. m.bias) (e ∙ once)

  pub stand : (k : Light) → k.mix ≡ mix_of r 1
      → Scales r.luma lines.first.line.mid lines.first.line.top r.bias k.luma
      → Scales r.blue lines.second.line.mid lines.second.line.top (2 * r.bias) k.blue
      → Scales r.red lines.third.line.mid lines.third.line.top (2 * r.bias) k.red
      → Stands lines k × (k.mix.most ≡ r.most)
  stand k e first second third =
      let back = sym (e ∙ once) in (
        record {
          fits = record { weighs = k.weighs; luma = k.luma_fits; blue = k.blue_fits; red = k.red_fits };
          luma = subst
              (λ m. Plane lines.first.line m.most (light_by m.kr m.kg m.kb) m.bias k.luma) back
              (record { run = r.luma; follows = f.luma.follows; scales = first });
          blue = subst
              (λ m. Plane lines.second.line m.most (blue_by m.kr m.kg m.kb m.bias) (2 * m.bias) k.blue) back
              (record { run = r.blue; follows = f.blue.follows; scales = second });
          red = subst
              (λ m. Plane lines.third.line m.most (red_by m.kr m.kg m.kb m.bias) (2 * m.bias) k.red) back
              (record { run = r.red; follows = f.red.follows; scales = third });
        },
        ap (λ m. m.most) (e ∙ once),
      )
