-- What writing a text at a position of a buffer leaves in it.
use Rattle.std.specs.Prelude.{◌≡◌, List, [], ◌∷◌, ℕ, zero, suc}

-- a buffer, and the position where the next text goes
pub record Page : Type 0 where
  pub bytes : List ℕ
  pub next : ℕ

abbrev pub page : List ℕ → ℕ → Page
page bytes next = record { bytes = bytes; next = next }

-- a page with one byte more in front
abbrev pub behind : ℕ → Page → Page
behind b p = page (b ∷ p.bytes) (suc p.next)

-- a text written at a position: as much of it as there is room for
unfoldable pub wrote : List ℕ → ℕ → List ℕ → Page
wrote [] at t = page [] at
wrote (b ∷ o) zero [] = page (b ∷ o) zero
wrote (b ∷ o) zero (c ∷ t) = behind c (wrote o zero t)
wrote (b ∷ o) (suc at) t = behind b (wrote o at t)

-- a text was written at a position of an old buffer, which gave a new one and the position after the text
pub record Wrote (old : List ℕ) (at : ℕ) (text new : List ℕ) (next : ℕ) : Type 0 where
  pub is : page new next ≡ wrote old at text
