-- Rules 12, 1 to 7 and 11 on a setting, in the order in which they are tested. This is the one place that gives them.
use Rattle.std.specs.Prelude.{Bool, true, false, not, cond, List, [], ◌∷◌, ℕ, eqb, Option, Some, None, Result, Ok, Err}
use Rattle.sample.specs.Depth.{depths_of}
use Rattle.sample.specs.declared.Depths.{Depths}
use Rattle.refusal.specs.Rules.{Rule, rule, first}
use Rattle.codes.specs.Edition.{edition_of}
use Rattle.codes.specs.declared.edition.Edition.{Edition}
use Rattle.codes.specs.Label.{primaries_label, transfer_label, is_reserved}
use Rattle.codes.specs.Standing.{standing, entry_of, matrix_by}
use Rattle.codes.specs.declared.matrix.Entry.{Entry}
use Rattle.codes.specs.declared.matrix.Matrix.{Matrix}
use Rattle.setting.specs.Agreement.{depths_served, agree, answers}
use Rattle.setting.specs.declared.Call.{Call}
use Rattle.setting.specs.declared.Setting.{Setting}
use Rattle.setting.specs.declared.admission.Served.{Served}
use Rattle.refusal.specs.declared.Refusal.{Refusal}

-- what its matrix code means in its edition
abbrev pub matrix_in : Setting → Matrix
matrix_in s = matrix_by (edition_of s.edition) s.matrix

abbrev pub entry : Setting → Entry
entry s = entry_of (matrix_in s)

abbrev pub depths : Setting → Depths
depths s = depths_of s.rgb_depth s.y_depth s.c_depth

-- the rules on its depths and flags and on what is asked
abbrev pub depth_rules : Call → Entry → Setting → List Rule
depth_rules call e s =
    rule 6 (not (depths_served e.deepest s.rgb_depth s.y_depth s.c_depth))
    ∷ rule 7 (not (agree e (depths s) s.rgb_full s.ycc_full))
    ∷ rule 11 (not (answers call e (depths s)))
    ∷ []

-- with those on its other codes before them
abbrev pub entry_rules : Call → Entry → Setting → List Rule
entry_rules call e s =
    rule 4 (is_reserved (primaries_label s.primaries))
    ∷ rule 5 (is_reserved (transfer_label s.transfer))
    ∷ depth_rules call e s

-- and those on its matrix before these
abbrev pub matrix_rules : Call → Matrix → Setting → List Rule
matrix_rules call m s =
    rule 1 (eqb (standing m) 1)
    ∷ rule 2 (eqb (standing m) 2)
    ∷ rule 3 (eqb (standing m) 3)
    ∷ entry_rules call (entry_of m) s

-- the edition's own rule
abbrev pub is_unknown : Option Edition → Bool
is_unknown (Some e) = false
is_unknown None = true

abbrev pub edition_rule : ℕ → Rule
edition_rule n = rule 12 (is_unknown (edition_of n))

-- THE rules on a setting: the edition's comes first
abbrev pub setting_rules : Call → Setting → List Rule
setting_rules call s = edition_rule s.edition ∷ matrix_rules call (matrix_in s) s

-- rule 6's part: the depths, where they are served
unfoldable pub served_depths : ℕ → ℕ → ℕ → ℕ → Option Depths
served_depths deepest r y c = cond (depths_served deepest r y c) (Some (depths_of r y c)) None

-- a setting past its refusals
abbrev pub served_by : Entry → Setting → Served
served_by e s =
    record { formulas = e.formulas; depths = depths s; rgb_full = s.rgb_full; ycc_full = s.ycc_full }

abbrev pub served : Setting → Served
served s = served_by (entry s) s

-- who is let in: what passed its rules, as what is served
abbrev pub admitted : Result Unit Refusal → Served → Result Served Refusal
admitted (Ok u) x = Ok x
admitted (Err r) x = Err r

-- THE answer on a setting
unfoldable pub setting_admission : Call → Setting → Result Served Refusal
setting_admission call s = admitted (first (setting_rules call s)) (served s)
