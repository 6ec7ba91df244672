-- Laws of tables: a table is what a loop that stores f i at i leaves, and what a list written part by part becomes.
use mathlib.Core.Path.{◌≡◌, refl, sym, ap, ◌∙◌}
use mathlib.Core.List.{List, [], ◌∷◌, ◌++◌, append_assoc, append-nil}
use mathlib.Core.Logic.{⊎_elim}
use Prim.Native.Nat.{ℕ, zero, suc, ◌+◌, ◌-◌, ◌≤◌, ◌<◌}
use native.Mathlib.Nat.{add-zero, add-suc, eq-or-lt_of_le, le_of_suc-le-suc, not-suc-le-zero}
use native.Mathlib.Numerals.{add-one}
use native.Mathlib.Omega.{arith}
use lib.ListN.{length, get_or, take, drop, set, length-append, length-set, length-take, length-drop, get_or-append}
use lib.Seq.{ext_get_or, take-suc-set, take_all, take_at, get_or_at, get_or-take, get_or-drop}
use Rattle.std.specs.Prelude.{replicate}
use Rattle.std.proofs.lemmas.List.{get_or-replicate, length-replicate}
use Rattle.tables.specs.Table.{tab, patched, zeros}

pub length_tab : (n : ℕ) (f : ℕ → ℕ) → length (tab n f) ≡ n
unfolding tab
length_tab zero f = refl
length_tab (suc n) f = omega (arith, length-append (tab n f) (f n ∷ []), length_tab n f)

pub tab_same : (n : ℕ) (f g : ℕ → ℕ) → ((i : ℕ) → i < n → f i ≡ g i) → tab n f ≡ tab n g
unfolding tab
tab_same zero f g e = refl
tab_same (suc n) f g e = rw (tab_same n f g (λ i h. e i (omega arith)), e n (omega arith))

pub tab_at : (n : ℕ) (f : ℕ → ℕ) (i : ℕ) → i < n → get_or (tab n f) i 0 ≡ f i
unfolding tab
tab_at zero f i h = absurd (not-suc-le-zero h)
tab_at (suc n) f i h =
    ⊎_elim
    (λ (q : i ≡ n). rw q (get_or_at (tab n f) (f n) [] 0 n (length_tab n f)))
    (λ (l : i < n). get_or-append (tab n f) (f n ∷ []) 0 i (omega (arith, length_tab n f)) ∙ tab_at n f i l)
    (eq-or-lt_of_le (le_of_suc-le-suc h))

-- a list that is 0 throughout, as the library writes it
pub zeros_are : (n : ℕ) → replicate n 0 ≡ zeros n
zeros_are n =
    ext_get_or 0 (replicate n 0) (zeros n) (length-replicate {A = ℕ} n 0 ∙ sym (length_tab n _))
    (λ i b. let h : i < n = omega (arith, length-replicate {A = ℕ} n 0) in get_or-replicate n i 0 0 h ∙ sym (tab_at n _ i h))

-- a table in two parts
tab_split : (f : ℕ → ℕ) (a n : ℕ) → tab (a + n) f ≡ tab a f ++ tab n (λ (i : ℕ). f (a + i))
unfolding tab
tab_split f a zero = rw add-zero (sym (append-nil _))
tab_split f a (suc n) = rw (add-suc, tab_split f a n, append_assoc)

-- a loop that stores f i at i, for i from 0: y has n elements, and is the table as far as i
pub record Filled (f : ℕ → ℕ) (n : ℕ) (y : List ℕ) (i : ℕ) : Type 0 where
  pub len : length y ≡ n
  pub so_far : take i y ≡ tab i f

pub filled_none : (f : ℕ → ℕ) (n : ℕ) (y : List ℕ) → length y ≡ n → Filled f n y 0
unfolding tab
filled_none f n y l = record { len = l; so_far = refl }

pub filled_more : (f : ℕ → ℕ) (n : ℕ) (y : List ℕ) (i v : ℕ) → i < n → v ≡ f i → Filled f n y i → Filled f n (set y i v) (i + 1)
unfolding tab
filled_more f n y i v h q e =
    let l : i < length y = omega (arith, e.len) in
    record { len = simp length-set e.len; so_far = rw (q, add-one, take-suc-set, e.so_far) }

pub filled_all : (f : ℕ → ℕ) (n : ℕ) (y : List ℕ) (i : ℕ) → i ≡ n → Filled f n y i → y ≡ tab n f
filled_all f n y i q e = rw (← q) (sym (take_all i y (omega (arith, e.len))) ∙ e.so_far)

-- the part of y from a up to e
pub part_length : (y : List ℕ) (a e : ℕ) → a ≤ e → e ≤ length y → length (take (e - a) (drop a y)) ≡ e - a
part_length y a e h k = simp (length-take, length-drop) (omega arith)

pub part_at : (y : List ℕ) (a e i : ℕ) → i < e - a → get_or (take (e - a) (drop a y)) i 0 ≡ get_or y (a + i) 0
part_at y a e i h = rw (get_or-take, get_or-drop)

-- how wide the part is that n elements from s make
pub part_width : (p : List ℕ) (s n : ℕ) → s + n ≤ length p → length (take (s + n - s) (drop s p)) ≡ n
part_width p s n h = omega (arith, part_length p s (s + n) (omega arith) h)

pub patched_length : (y ys : List ℕ) (a e : ℕ) → a ≤ e → e ≤ length y → length ys ≡ e - a → length (patched y a e ys) ≡ length y
patched_length y ys a e h k l = simp (length-append, length-take, length-drop) (omega arith)

-- a part that is the table there takes the table further
pub patched_more : (f : ℕ → ℕ) (y ys : List ℕ) (a e : ℕ) → a ≤ e → e ≤ length y → take a y ≡ tab a f
    → ys ≡ tab (e - a) (λ (i : ℕ). f (a + i)) → take e (patched y a e ys) ≡ tab e f
patched_more f y ys a e h k t q =
    let l : length ys ≡ e - a = ap length q ∙ length_tab _ _ in
    let m : length (take a y ++ ys) ≡ e = simp (length-append, length-take) (omega arith) in
    let d : a + (e - a) ≡ e = omega arith in
    rw (← append_assoc, take_at (take a y ++ ys) _ e m, t, q, ← tab_split f a (e - a)) (ap (λ x. tab x f) d)
