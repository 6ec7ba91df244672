-- Which code points are assigned, unspecified or reserved. The editions differ in matrices alone.
use Rattle.std.specs.Prelude.{Bool, true, false, cond, ◌&&◌, List, [], ◌∷◌, ℕ, leb, eqb}
use Rattle.codes.specs.declared.edition.Edition.{Edition}
use Rattle.codes.specs.declared.label.CodeKind.{CodeKind}
use Rattle.codes.specs.declared.label.CodeKind.TheVariants as kind
use Rattle.codes.specs.declared.label.Label.{Label}
use Rattle.codes.specs.declared.label.Label.TheVariants as label
use Rattle.codes.specs.declared.matrix.Matrix.{Matrix}
use Rattle.codes.specs.declared.matrix.Matrix.TheVariants.{Served, Unserved, Unspecified, Reserved}
use Rattle.codes.specs.Matrix.{matrix_of}

-- the codes from one number to another, both among them
pub record Span : Type 0 where
  pub from : ℕ
  pub to : ℕ

abbrev pub span : ℕ → ℕ → Span
span a b = record { from = a; to = b }

-- whether a code lies in one of some spans
unfoldable pub among : List Span → ℕ → Bool
among [] n = false
among (s ∷ ss) n = cond (leb s.from n && leb n s.to) true (among ss n)

-- 2 says that the label is unspecified, and whatever is neither that nor assigned is reserved
unfoldable pub labelled : List Span → ℕ → Label
labelled assigned n = cond (among assigned n) label.Assigned (cond (eqb n 2) label.Unspecified label.Reserved)

abbrev pub primaries_label : ℕ → Label
primaries_label = labelled (span 1 1 ∷ span 4 12 ∷ span 22 22 ∷ [])

abbrev pub transfer_label : ℕ → Label
transfer_label = labelled (span 1 1 ∷ span 4 18 ∷ [])

-- a matrix's label follows from what its code means
abbrev pub label_of : Matrix → Label
label_of (Served e) = label.Assigned
label_of Unserved = label.Assigned
label_of Unspecified = label.Unspecified
label_of Reserved = label.Reserved

abbrev pub matrix_label : Edition → ℕ → Label
matrix_label e n = label_of (matrix_of e n)

-- THE label of a code of each kind
abbrev pub label_for : CodeKind → Edition → ℕ → Label
label_for kind.Primaries e n = primaries_label n
label_for kind.Transfer e n = transfer_label n
label_for kind.Matrix e n = matrix_label e n

-- the number of a label: 0 assigned, 1 unspecified, 2 reserved
abbrev pub label_number : Label → ℕ
label_number label.Assigned = 0
label_number label.Unspecified = 1
label_number label.Reserved = 2

abbrev pub is_reserved : Label → Bool
is_reserved label.Assigned = false
is_reserved label.Unspecified = false
is_reserved label.Reserved = true
