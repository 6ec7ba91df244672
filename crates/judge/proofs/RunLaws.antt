-- Laws of a run that is told part by part: what a part comes to is said of its own pixels, and with each part the run is told further.
use mathlib.Core.Path.{◌≡◌, refl, sym, ap, ◌∙◌, subst}
use mathlib.Core.Bool.{Bool, true, false, not, true≢false}
use mathlib.Core.List.{List}
use mathlib.Core.Logic.{⊎_elim}
use Prim.Native.Nat.{ℕ, ◌+◌, ◌-◌, ◌≤◌, ◌<◌}
use native.Mathlib.Omega.{arith}
use lib.ListN.{length, get_or, take}
use lib.Seq.{take_at}
use Rattle.std.proofs.Common.{Option, Some, None, is_some}
use Rattle.sample.specs.declared.Pixel.{Pixel}
use Rattle.sample.proofs.Choices.{below_or_not}
use Rattle.tables.specs.Table.{patched}
use Rattle.tables.proofs.Tables.{part_at, part_width, length_tab, tab_at}
use Rattle.planes.specs.Picture.{sample_of}
use Rattle.planes.specs.Three.{Three, row_part, row_parts, pixel_in, LongThree}
use Rattle.scan.specs.First.{RunFine, RunsFine, Tells}
use Rattle.convert.specs.Row.{row_of, ConvertedRows}
use Rattle.compare.specs.Count.{count_of, index_or, FirstFound}
use Rattle.compare.specs.Compare.{differ, rows_differ, Compared}
use Rattle.compare.specs.declared.Tally.{Tally}
use Rattle.compare.proofs.CountLaws.{count_none, count_parts, count_same, first_none, first_part, first_kept}
use Rattle.compare.proofs.CompareLaws.{first_same}
use Rattle.rows.specs.Paint.{mapped_part, FineParts, RowsPut}
use Rattle.rows.proofs.FineLaws as rows
use Rattle.rows.proofs.FineLaws.{first_fine, second_fine, third_fine}
use Rattle.judge.specs.Judge.{run_wrong, RunTold}

-- ---- a part

-- the pixel at index i of three parts
part_pixel : (a : Three) (from n i : ℕ) → i < n → pixel_in (row_parts a from n) i ≡ pixel_in a (from + i)
part_pixel a from n i l =
    let l' : i < from + n - from = omega arith in
    rw (part_at a.p0 from (from + n) i l', part_at a.p1 from (from + n) i l', part_at a.p2 from (from + n) i l')

module _ (f : Pixel → Pixel) (from to n : ℕ) (a b : Three) (long : from + n ≤ length a.p0) where
  -- what a part was converted to, and what is claimed there
  converted_at : (k i : ℕ) → i < n → get_or (row_of k f (row_parts a from n)) i 0 ≡ sample_of k (f (pixel_in a (from + i)))
  converted_at k i l =
      tab_at _ _ i (omega (arith, part_width a.p0 from n long)) ∙ ap (λ p. sample_of k (f p)) (part_pixel a from n i l)

  pub part_same : (c : Three) → ConvertedRows f (row_parts a from n) c → (i : ℕ) → i < n
      → rows_differ c (row_parts b to n) i ≡ run_wrong f from to a b i
  part_same c e i l =
      let q0 = ap (λ x. get_or x i 0) e.0 ∙ converted_at 0 i l in
      let q1 = ap (λ x. get_or x i 0) e.1.0 ∙ converted_at 1 i l in
      let q2 = ap (λ x. get_or x i 0) e.1.1 ∙ converted_at 2 i l in
      let is : pixel_in c i ≡ f (pixel_in a (from + i)) = λ t. record { p0 = q0 t; p1 = q1 t; p2 = q2 t } in
      λ t. differ (is t) (part_pixel b to n i l t)

  -- a part that was put into rows of one's own, from their start on
  pub part_put : (p q : Three) → RowsPut f from 0 n a p q → ConvertedRows f (row_parts a from n) (row_parts q 0 n)
  part_put p q e =
      let start : (x : List ℕ) → row_part x 0 n ≡ take n x = λ x. ap (λ k. take k x) (let h : 0 + n - 0 ≡ n = omega arith in h) in
      let taken : (k : ℕ) (x y : List ℕ) → y ≡ patched x 0 (0 + n) (mapped_part k f from n a) → row_part y 0 n ≡ mapped_part k f from n a =
      λ k x y g. start y ∙ ap (take n) g ∙ take_at (mapped_part k f from n a) _ n (length_tab _ _ ∙ part_width a.p0 from n long) in
      (taken 0 p.p0 q.p0 e.0, (taken 1 p.p1 q.p1 e.1.0, taken 2 p.p2 q.p2 e.1.1))

-- no sample of three parts is above its top exactly if none of the runs' is
pub tells_runs : (tops : Pixel) (from n : ℕ) (a : Three) → LongThree (from + n) a → (r : Bool)
    → Tells r (FineParts tops from n a) → Tells r (RunsFine tops from n a)
tells_runs tops from n a long r t = (
  λ e.
      let h = t.0 e in
      (first_fine tops from n a long h, (second_fine tops from n a long h, third_fine tops from n a long h)),
  λ e h. t.1 e (rows.fine_parts tops from n a long h.0 h.1.0 h.1.1),
)

-- ---- a run

-- the pixels of a run from index n on
shifted : (f : Pixel → Pixel) (from to n : ℕ) (a b : Three) (k : ℕ)
    → run_wrong f (from + n) (to + n) a b k ≡ run_wrong f from to a b (n + k)
shifted f from to n a b k =
    let e : from + n + k ≡ from + (n + k) = omega arith in
    let g : to + n + k ≡ to + (n + k) = omega arith in
    λ t. differ (f (pixel_in a (e t))) (pixel_in b (g t))

fine_parts : (p : List ℕ) (from n m top : ℕ) → RunFine p from n top → RunFine p (from + n) m top → RunFine p from (n + m) top
fine_parts p from n m top h g k l =
    ⊎_elim
    (λ (s : k < n). h k s)
    (λ (s : n ≤ k).
    let e : from + n + (k - n) ≡ from + k = omega arith in subst (λ i. get_or p i 0 ≤ top) e (g (k - n) (omega arith)))
    (below_or_not k n)

fine_part : (p : List ℕ) (from n m all top : ℕ) → n + m ≤ all → RunFine p from all top → RunFine p (from + n) m top
fine_part p from n m all top h g k l =
    let e : from + (n + k) ≡ from + n + k = omega arith in
    subst (λ i. get_or p i 0 ≤ top) e (g (n + k) (omega arith))

pub part_of_fine : (tops : Pixel) (from n m all : ℕ) (a : Three) → n + m ≤ all → RunsFine tops from all a
    → RunsFine tops (from + n) m a
part_of_fine tops from n m all a h g =
    (fine_part a.p0 from n m all tops.p0 h g.0, (fine_part a.p1 from n m all tops.p1 h g.1.0, fine_part a.p2 from n m all tops.p2 h g.1.1))

-- The loop's invariant: of a run of n pixels the first `done` are told.
pub record Running (tops : Pixel) (f : Pixel → Pixel) (from to n : ℕ) (a b : Three) (first : Option ℕ) (wrong done : ℕ) : Type 0 where
  pub until : done ≤ n
  pub fine : RunsFine tops from done a
  pub found : FirstFound (run_wrong f from to a b) done first
  pub counted : wrong ≡ count_of done (run_wrong f from to a b)

-- what was found before a part, and what of the part's own after it
abbrev pub later : ℕ → Option ℕ → Option ℕ → Option ℕ
later done first (Some i) = Some (done + i)
later done first None = first

-- the first is sought exactly if none was found
sought_yet : (sought : Bool) → false ≡ not sought → sought ≡ true
sought_yet true e = refl
sought_yet false e = absurd (true≢false (sym e))

sought_no_more : (sought : Bool) → true ≡ not sought → sought ≡ false
sought_no_more true e = absurd (true≢false e)
sought_no_more false e = refl

module _ (f : Pixel → Pixel) (from to : ℕ) (a b : Three) where
  -- where none was found so far, the next part has the first or none; where one was, it stays
  found_more : (done m : ℕ) {sought : Bool} (first : Option ℕ) (part : Tally) (own : Option ℕ) → own ≡ part.first → is_some first ≡ not sought
      → FirstFound (run_wrong f from to a b) done first → Compared part sought m (run_wrong f (from + done) (to + done) a b)
      → FirstFound (run_wrong f from to a b) (done + m) (later done first own)
  found_more done m None part own e s h c =
      let k = c.found (sought_yet _ s) in
      let own_at = subst (λ o. FirstFound (run_wrong f (from + done) (to + done) a b) m o) (sym e) k in
      let moved : (o : Option ℕ) → FirstFound (run_wrong f (from + done) (to + done) a b) m o → FirstFound (run_wrong f from to a b) (done + m) (later done None o) =
      elim [
        | Some i ↦ λ g. record {
          inside = λ j q. omega (arith, ap (index_or 0) q, g.inside i refl);
          first_at = first_part _ done m i h.first_at (first_same (λ k o. shifted f from to done a b k) g.first_at);
        }
        | None ↦ λ g. record {
          inside = λ j q. cc;
          first_at = first_part _ done m m h.first_at (first_same (λ k o. shifted f from to done a b k) g.first_at);
        }
      ] in
      moved own own_at
  found_more done m (Some k) part own e s h c =
      let none : own ≡ None = e ∙ c.unsought (sought_no_more _ s) in
      let l = h.inside k refl in
      rw none (record {
        inside = λ j q. omega (arith, ap (index_or 0) q, l);
        first_at = first_kept _ done m k h.first_at (λ q. absurd (omega arith));
      })

module _ {tops : Pixel} {f : Pixel → Pixel} {from to n : ℕ} {a b : Three} where
  pub running_none : Running tops f from to n a b None 0 0
  running_none =
      record {
        until = omega arith;
        fine = (λ k l. absurd (omega arith), (λ k l. absurd (omega arith), λ k l. absurd (omega arith)));
        found = record { inside = λ i e. cc; first_at = first_none _ };
        counted = sym (count_none _);
      }

  -- a part more
  pub running_more : {first : Option ℕ} {wrong done m : ℕ} {part : Tally} {sought : Bool} (own : Option ℕ) → own ≡ part.first → is_some first ≡ not sought
      → Running tops f from to n a b first wrong done → done + m ≤ n
      → RunsFine tops (from + done) m a → Compared part sought m (run_wrong f (from + done) (to + done) a b)
      → Running tops f from to n a b (later done first own) (wrong + part.wrong) (done + m)
  running_more {first} {wrong} {done} {m} {part} own e s r l p c =
      let g = r.fine in
      record {
        until = l;
        fine = (
          fine_parts a.p0 from done m tops.p0 g.0 p.0,
          (fine_parts a.p1 from done m tops.p1 g.1.0 p.1.0, fine_parts a.p2 from done m tops.p2 g.1.1 p.1.1),
        );
        found = found_more f from to a b done m first part own e s r.found c;
        counted =
            (λ t. r.counted t + (c.counted ∙ count_same _ _ _ (λ k o. shifted f from to done a b k)) t)
            ∙ sym (count_parts done m _);
      }

  -- all parts
  pub running_all : {first : Option ℕ} {wrong done : ℕ} → Running tops f from to n a b first wrong done → done ≡ n
      → RunTold (Some (record { first = first; wrong = wrong })) tops f from to n a b
  running_all {first} {wrong} r e =
      let s = subst (Running tops f from to n a b first wrong) e r in
      (s.fine, record { counted = s.counted; unsought = λ q. cc; found = λ q. s.found })
