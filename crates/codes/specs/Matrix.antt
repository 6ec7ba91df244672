-- H.273's table 4: the matrix of each code, as an entry of data. The editions have codes 0 to 14 in common; what each adds after them has its
-- one home here.
use Rattle.std.specs.Prelude.{true, false, List, [], ◌∷◌, ◌++◌, ℕ, get_or, Some, None}
use Rattle.sample.specs.Depth.{most_depth, most_level_depth}
use Rattle.levels.specs.Equations.{weights, luma_matrix}
use Rattle.codes.specs.declared.edition.Edition.{Edition}
use Rattle.codes.specs.declared.edition.Edition.TheVariants.{Of2021, Draft, Published}
use Rattle.codes.specs.declared.matrix.Entry.{Entry}
use Rattle.codes.specs.declared.matrix.Formulas.TheVariants.{ChangePlaces, YCgCo, Levels}
use Rattle.codes.specs.declared.matrix.Matrix.{Matrix}
use Rattle.codes.specs.declared.matrix.Matrix.TheVariants.{Served, Unserved, Unspecified, Reserved}

-- code 0
abbrev pub changed_places : Entry
changed_places =
    record {
      formulas = ChangePlaces;
      deepest = most_depth;
      bond = Some 0;
      chroma_bits = 0;
      lossless = Some 0;
      metered = false;
    }

-- YCgCo by the bits that Y has more than RGB, and the most that chroma may have more than Y
abbrev pub ycgco : ℕ → ℕ → Entry
ycgco y_bits chroma_bits =
    record {
      formulas = YCgCo;
      deepest = most_depth;
      bond = Some y_bits;
      chroma_bits = chroma_bits;
      lossless = Some 1;
      metered = false;
    }

-- YCgCo, which is YCgCo-R where chroma has a bit more than Y
abbrev pub ycgco_r : Entry
ycgco_r = ycgco 0 1

-- YCgCo-Re, with an even number of bits more than RGB, and YCgCo-Ro, with an odd one
abbrev pub ycgco_re : Entry
ycgco_re = ycgco 2 0

abbrev pub ycgco_ro : Entry
ycgco_ro = ycgco 1 0

-- a luma matrix by its KR and KB in ten-thousandths; KG is what is left of one
abbrev pub luma_entry : ℕ → ℕ → Entry
luma_entry kr kb =
    record {
      formulas = Levels (luma_matrix (weights kr kb));
      deepest = most_level_depth;
      bond = None;
      chroma_bits = 0;
      lossless = None;
      metered = true;
    }

-- in every edition, from code 0 on
abbrev pub common : List Matrix
common =
    Served changed_places  -- 0
    ∷ Served (luma_entry 2126 722)  -- 1
    ∷ Unspecified  -- 2
    ∷ Reserved  -- 3
    ∷ Served (luma_entry 3000 1100)  -- 4
    ∷ Served (luma_entry 2990 1140)  -- 5
    ∷ Served (luma_entry 2990 1140)  -- 6
    ∷ Served (luma_entry 2120 870)  -- 7
    ∷ Served ycgco_r  -- 8
    ∷ Served (luma_entry 2627 593)  -- 9
    ∷ Unserved  -- 10
    ∷ Unserved  -- 11
    ∷ Unserved  -- 12
    ∷ Unserved  -- 13
    ∷ Unserved  -- 14
    ∷ []

-- and in each edition from code 15 on
abbrev pub added : Edition → List Matrix
added Of2021 = []
added Draft = Served ycgco_re ∷ Served ycgco_ro ∷ []
added Published = Unserved ∷ Served ycgco_re ∷ Served ycgco_ro ∷ []

-- every code after them is reserved
unfoldable pub matrix_of : Edition → ℕ → Matrix
matrix_of e code = get_or (common ++ added e) code Reserved
