-- What a code comes to: in an edition that may be none, by the rule that it meets, and by its entry.
use Rattle.std.specs.Prelude.{ℕ, Option, Some, None}
use Rattle.codes.specs.Matrix.{changed_places, matrix_of}
use Rattle.codes.specs.declared.edition.Edition.{Edition}
use Rattle.codes.specs.declared.matrix.Entry.{Entry}
use Rattle.codes.specs.declared.matrix.Matrix.{Matrix}
use Rattle.codes.specs.declared.matrix.Matrix.TheVariants.{Served, Unserved, Unspecified, Reserved}

-- the rule that a matrix meets by itself: 1 reserved, 2 unspecified, 3 known and not served, 0 served
abbrev pub standing : Matrix → ℕ
standing (Served e) = 0
standing Reserved = 1
standing Unspecified = 2
standing Unserved = 3

-- the entry of a served matrix; rules 1 to 3 refuse every other one before this is asked
abbrev pub entry_of : Matrix → Entry
entry_of (Served e) = e
entry_of Reserved = changed_places
entry_of Unspecified = changed_places
entry_of Unserved = changed_places

-- what a code means in an edition: nothing in one that is none, which rule 12 refuses before this is asked
abbrev pub matrix_by : Option Edition → ℕ → Matrix
matrix_by (Some e) code = matrix_of e code
matrix_by None code = Reserved
