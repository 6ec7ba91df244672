-- How far a loop has converted a row, and that a row whose every pixel is what a formula makes is the row that the formula makes.
use mathlib.Core.Path.{◌≡◌, sym, ap, ◌∙◌}
use mathlib.Core.List.{List}
use Prim.Native.Nat.{ℕ, ◌<◌}
use native.Mathlib.Omega.{arith}
use lib.ListN.{length, get_or}
use lib.Seq.{ext_get_or}
use Rattle.sample.specs.declared.Pixel.{Pixel}
use Rattle.tables.specs.Table.{tab}
use Rattle.tables.proofs.Tables.{length_tab, tab_at, tab_same}
use Rattle.planes.specs.Three.{Three, pixel_in}
use Rattle.convert.specs.Row.{row_by, ConvertedRows, OneWidth, SteppedRow, SteppedRows}

-- the row b holds what a step gives of each pixel of the rows a, as far as index i
pub record StoredPlane (gives : Pixel → ℕ → Type 0) (a : Three) (b : List ℕ) (i : ℕ) : Type 0 where
  pub b_long : length b ≡ length a.p0
  pub each : (k : ℕ) → k < i → gives (pixel_in a k) (get_or b k 0)

-- the rows b hold that, as far as index i
pub record Stored (gives : Pixel → Pixel → Type 0) (a b : Three) (i : ℕ) : Type 0 where
  pub one_width : OneWidth a b
  pub each : (k : ℕ) → k < i → gives (pixel_in a k) (pixel_in b k)

-- a row, read element by element
pub row_itself : (l : List ℕ) (n : ℕ) → length l ≡ n → l ≡ tab n (λ (i : ℕ). get_or l i 0)
row_itself l n h =
    ext_get_or 0 l (tab n (λ (i : ℕ). get_or l i 0)) (h ∙ sym (length_tab n _)) (λ i b. sym (tab_at n (λ (i : ℕ). get_or l i 0) i (omega arith)))

-- rows that hold what a step gives are what a formula makes, where the step gives what the formula says
pub row_by_steps : {gives : Pixel → ℕ → Type 0} (g : Pixel → ℕ) {a : Three} {b : List ℕ} → ((p : Pixel) (v : ℕ) → gives p v → v ≡ g p)
    → SteppedRow gives a b → b ≡ row_by g a
row_by_steps g {a} {b} says h =
    row_itself b (length a.p0) h.b_long ∙ tab_same _ _ _ (λ i l. says _ _ (h.each i l))

pub rows_by_steps : {gives : Pixel → Pixel → Type 0} (f : Pixel → Pixel) {a b : Three} → ((p q : Pixel) → gives p q → q ≡ f p)
    → SteppedRows gives a b → ConvertedRows f a b
rows_by_steps f {a} {b} says h =
    let is : (i : ℕ) → i < length a.p0 → pixel_in b i ≡ f (pixel_in a i) = λ i l. says _ _ (h.each i l) in
    let w = h.one_width in (
      row_itself b.p0 _ w.b0_long ∙ tab_same _ _ _ (λ i l. ap (λ p. p.p0) (is i l)),
      (
        row_itself b.p1 _ w.b1_long ∙ tab_same _ _ _ (λ i l. ap (λ p. p.p1) (is i l)),
        row_itself b.p2 _ w.b2_long ∙ tab_same _ _ _ (λ i l. ap (λ p. p.p2) (is i l)),
      ),
    )
