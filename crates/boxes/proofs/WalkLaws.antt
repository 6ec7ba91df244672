-- A box lies where it was looked for and within the room, so that a walk gets on, and ends.
use mathlib.Core.Path.{◌≡◌, refl, ◌∙◌}
use mathlib.Core.Bool.{Bool, true, false, cond}
use mathlib.Core.List.{List, [], ◌∷◌}
use Prim.Native.Nat.{ℕ, zero, suc, ◌+◌, ◌-◌, ◌≤◌, ◌<◌}
use native.Mathlib.Omega.{arith}
use borrow.Author.Tests.{ltb-true, ltb-false}
use Rattle.std.specs.Prelude.{Option}
use denote.Enum.Declared
use lib.Dec.{ltb, eqb}
use lib.ListN.{length}
use types.Run.{OneOf, miss}
use Rattle.boxes.specs.declared.Header.{Header}
use Rattle.boxes.specs.declared.Walked.{Walked}
use Rattle.boxes.specs.declared.Walked.TheVariants.{Found, Beyond, Small, Further, Cut, End}
use Rattle.boxes.specs.Boxes.{word_at, long_word_at, whole_of, header_of, fitted, headed, long_box, box_at, wanted, onward, walked_from, walked}
use Rattle.boxes.specs.Placed.{Lies, PlacedBy}
use Rattle.boxes.specs.contracts.Walked.{the_type}

-- a box that was found starts there
abbrev pub Starts : ℕ → Walked → Type 0
Starts at (Found h) = h.at ≡ at
Starts at (Beyond h) = 0 ≤ at
Starts at (Small h) = 0 ≤ at
Starts at (Further p) = 0 ≤ at
Starts at (Cut p) = 0 ≤ at
Starts at End = 0 ≤ at

-- what holds of both answers of a test holds of its answer
tested : (P : Walked → Type 0) (t : Bool) {a b : Walked} → (t ≡ true → P a) → (t ≡ false → P b) → P (cond t a b)
tested P true f g = f refl
tested P false f g = g refl

module _ (s : List ℕ) (room at : ℕ) (h : at ≤ room) where
  abbrev Good : Walked → Type 0
  Good w = PlacedBy (length s) room w × Starts at w

  good_fitted : (kind len size : ℕ) → 8 ≤ len → len ≤ 16 → Good (fitted (header_of at kind len size) (room - at))
  unfolding fitted
  good_fitted kind len size l m =
      tested Good (ltb size len) (λ e. (omega arith, omega arith))
      (λ e. tested Good (ltb (room - at) size) (λ e. (omega arith, omega arith))
      (λ f. (record { some = l; short = m; headed = ltb-false size len e; within = omega (arith, ltb-false (room - at) size f) }, refl)))

  good_headed : (n : ℕ) (w : Walked) → n ≤ 16 → Good w → Good (headed n s room at w)
  good_headed n w m g =
      tested Good (ltb (room - at) n) (λ e. (omega arith, omega arith))
      (λ e. tested Good (ltb (length s) (at + n))
      (λ f. (record { more = λ k. omega (arith, ltb-true (length s) (at + n) f); within = h }, omega arith))
      (λ f. g))

  good_long : (kind : ℕ) → Good (long_box s room at kind)
  unfolding long_box
  good_long kind =
      let size = long_word_at s (at + 8) in
      good_headed 16 (fitted (header_of at kind 16 size) (room - at)) (omega arith) (good_fitted kind 16 size (omega arith) (omega arith))

  -- the box at a position lies from there on
  pub good_box : Good (box_at s room at)
  unfolding box_at
  good_box =
      let kind = word_at s (at + 4) in
      let size = whole_of (word_at s at) (room - at) in
      let long = long_box s room at kind in
      let short = fitted (header_of at kind 8 size) (room - at) in
      tested Good (eqb (room - at) 0) (λ e. (omega arith, omega arith))
      (λ e. good_headed 8 (cond (eqb (word_at s at) 1) long short) (omega arith)
      (tested Good (eqb (word_at s at) 1) (λ e. good_long kind) (λ e. good_fitted kind 8 size (omega arith) (omega arith))))

  pub good_found : (f : Header) → box_at s room at ≡ Found f → Lies room f × (f.at ≡ at)
  good_found f e = rw e at good_box

-- what remains of a walk from a position, over enough boxes
pub record Rest (s : List ℕ) (room : ℕ) (kind : Option ℕ) (at : ℕ) : Type 0 where
  pub boxes : ℕ
  pub enough : room - at < suc boxes
  pub same : walked s room kind ≡ walked_from (suc boxes) s room kind at

module _ (s : List ℕ) (room : ℕ) (kind : Option ℕ) where
  pub rest_all : Rest s room kind 0
  rest_all = record { boxes = room; enough = omega arith; same = refl }

  module _ (at : ℕ) (r : Rest s room kind at) where
    rest_now : walked s room kind ≡ onward kind (walked_from r.boxes s room kind) (box_at s room at)
    unfolding walked_from
    rest_now = r.same

    -- a box that is not wanted is passed
    pub rest_next : (h : Header) → at ≤ room → box_at s room at ≡ Found h → wanted kind h.kind ≡ false
        → at < h.at + h.size → h.at + h.size ≤ room → Rest s room kind (h.at + h.size)
    unfolding onward
    rest_next h k e f l m = go r.boxes r.enough (rest_now ∙ rw (e, f))
      where
        go : (n : ℕ) → room - at < suc n → walked s room kind ≡ walked_from n s room kind (h.at + h.size)
            → Rest s room kind (h.at + h.size)
        go zero g p = absurd (omega arith)
        go (suc n) g p = record { boxes = n; enough = omega arith; same = p }

    pub rest_found : (h : Header) → box_at s room at ≡ Found h → wanted kind h.kind ≡ true → walked s room kind ≡ Found h
    unfolding onward
    rest_found h e f = rest_now ∙ rw (e, f)

    -- what is no box ends the walk
    pub rest_other : ((h : Header) → box_at s room at ≡ Found h → ⊥) → walked s room kind ≡ box_at s room at
    unfolding onward
    rest_other k = rest_now ∙ go (box_at s room at) k
      where
        go : (w : Walked) → ((h : Header) → w ≡ Found h → ⊥) → onward kind (walked_from r.boxes s room kind) w ≡ w
        go (Found h) k = absurd (k h refl)
        go (Beyond h) k = refl
        go (Small h) k = refl
        go (Further p) k = refl
        go (Cut p) k = refl
        go End k = refl

    -- the same by the number of its variant
    pub rest_ended : OneOf (1 ∷ 2 ∷ 3 ∷ 4 ∷ 5 ∷ []) (Declared.tag_of the_type (box_at s room at)) → walked s room kind ≡ box_at s room at
    rest_ended k = rest_other (λ h e. miss (1 ∷ 2 ∷ 3 ∷ 4 ∷ 5 ∷ []) 0 tt (rw e at k))
