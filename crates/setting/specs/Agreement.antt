-- Which depths and flags agree with an entry of the table of matrices, where it is lossless, and which calls it answers.
use Rattle.std.specs.Prelude.{Bool, true, false, ◌&&◌, not, ℕ, ◌+◌, eqb, leb, Option, Some, None}
use Rattle.sample.specs.Depth.{are_depths, at_most, depths_of}
use Rattle.sample.specs.declared.ChromaDepth.{ChromaDepth}
use Rattle.sample.specs.declared.Depths.{Depths}
use Rattle.sample.specs.declared.LumaDepth.{LumaDepth}
use Rattle.sample.specs.declared.RgbDepth.{RgbDepth}
use Rattle.codes.specs.declared.matrix.Entry.{Entry}
use Rattle.setting.specs.declared.Call.{Call}
use Rattle.setting.specs.declared.Call.TheVariants.{Convert, Meter, ImageCheck}

-- rule 6 speaks of depths for which this is false
unfoldable pub depths_served : ℕ → ℕ → ℕ → ℕ → Bool
depths_served deepest r y c = are_depths r y c && at_most deepest (depths_of r y c)

-- both flags full or both narrow
abbrev pub same : Bool → Bool → Bool
same true b = b
same false b = not b

-- Y has some bits more than RGB
abbrev pub is_deeper : LumaDepth → RgbDepth → ℕ → Bool
is_deeper luma rgb added = eqb luma.0 (rgb.0 + added)

-- the RGB side goes with the other
abbrev pub bonded : Option ℕ → Depths → Bool → Bool → Bool
bonded (Some n) d rgb_full ycc_full = is_deeper d.luma d.rgb n && same rgb_full ycc_full
bonded None d rgb_full ycc_full = true

-- chroma is as deep as Y, or deeper by some bits at most
abbrev pub deeper_by : ℕ → LumaDepth → ChromaDepth → Bool
deeper_by most luma chroma = leb luma.0 chroma.0 && leb chroma.0 (luma.0 + most)

-- rule 7 speaks of depths and flags for which this is false
unfoldable pub agree : Entry → Depths → Bool → Bool → Bool
agree e d rgb_full ycc_full = bonded e.bond d rgb_full ycc_full && deeper_by e.chroma_bits d.luma d.chroma

-- of the settings that agree, those that lose nothing
abbrev pub keeps : Option ℕ → Depths → Bool
keeps (Some n) d = leb (d.rgb.0 + n) d.chroma.0
keeps None d = false

-- rule 11 speaks of calls for which this is false: the meter wants a level matrix, the image check a lossless setting
abbrev pub answers : Call → Entry → Depths → Bool
answers (Convert w) e d = true
answers Meter e d = e.metered
answers ImageCheck e d = keeps e.lossless d
