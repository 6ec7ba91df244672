-- `planes::fill::zero_all` meets its contract: as many zeros as there are elements are a table of zeros.
use Rattle.std.proofs.Common.{◌≡◌, ◌<◌, ℕ, sym, ◌∙◌, arith, replicate}
use Rattle.std.proofs.lemmas.List.{get_or-replicate, length-replicate}
use lib.Seq.{ext_get_or}
use Rattle.tables.specs.Table.{zeros}
use Rattle.tables.proofs.Tables.{length_tab, tab_at}
use Rattle.planes.proofs.fill.zero_all.Goals as goal

zeros_are : (n : ℕ) → replicate n 0 ≡ zeros n
zeros_are n =
    ext_get_or 0 (replicate n 0) (zeros n) (length-replicate {A = ℕ} n 0 ∙ sym (length_tab n _))
    (λ i b. let h : i < n = omega (arith, length-replicate {A = ℕ} n 0) in get_or-replicate n i 0 0 h ∙ sym (tab_at n _ i h))

pub returns : goal.returns
returns c = c.fill.ensures.after (λ y e. e) ∙ zeros_are _
