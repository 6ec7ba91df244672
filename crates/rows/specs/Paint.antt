-- A row of a picture, painted: what is read, and what the planes then hold.
use Rattle.std.specs.Prelude.{◌≡◌, Bool, true, List, ℕ, ◌+◌}
use Rattle.sample.specs.declared.Pixel.{Pixel}
use Rattle.tables.specs.Table.{patched}
use Rattle.planes.specs.Picture.{Picture, picture}
use Rattle.planes.specs.Three.{Three, row_parts}
use Rattle.planes.specs.Sizes.{layout}
use Rattle.planes.specs.declared.size.Layout.{Layout}
use Rattle.scan.specs.First.{NotAbove, Tells}
use Rattle.row_plan.specs.RowPlan.{RowTakes}
use Rattle.row_plan.specs.declared.RowPlan.{RowPlan}
use Rattle.convert.specs.Row.{row_of, EveryOf}
use Rattle.rows.specs.declared.paint.Size.{Size}

-- the picture that is read, the one in the planes that are written or claimed, and the layout of these
abbrev pub input_picture : Size → List ℕ → List ℕ → List ℕ → Picture
input_picture z p0 p1 p2 = picture z.width z.height z.input_stride p0 p1 p2

abbrev pub output_picture : Size → List ℕ → List ℕ → List ℕ → Picture
output_picture z p0 p1 p2 = picture z.width z.height z.output_stride p0 p1 p2

abbrev pub output_layout : Size → ℕ → ℕ → ℕ → Layout
output_layout z n0 n1 n2 = layout z.output_stride n0 n1 n2

-- a plan that takes every pixel with no sample above its top
pub record TakesUpTo (tops : Pixel) (plan : RowPlan) : Type 0 where
  pub each : (p : Pixel) → NotAbove tops p → RowTakes plan p

-- row k of parts of three planes, by a function of their pixels
abbrev pub mapped_part : ℕ → (Pixel → Pixel) → ℕ → ℕ → Three → List ℕ
mapped_part k f from n a = row_of k f (row_parts a from n)

-- no sample of such parts is above its top
abbrev pub FineParts : Pixel → ℕ → ℕ → Three → Type 0
FineParts tops from n a = EveryOf (NotAbove tops) (row_parts a from n)

-- the planes q are the planes p with those rows put in from index `to` on
abbrev pub RowsPut : (Pixel → Pixel) → ℕ → ℕ → ℕ → (a p q : Three) → Type 0
RowsPut f from to n a p q =
    (q.p0 ≡ patched p.p0 to (to + n) (mapped_part 0 f from n a))
    × ((q.p1 ≡ patched p.p1 to (to + n) (mapped_part 1 f from n a)) × (q.p2 ≡ patched p.p2 to (to + n) (mapped_part 2 f from n a)))

-- the same, answered yes, exactly if no sample of those parts is above its top; after a no they hold whatever they hold
abbrev pub RowsPutIf : Bool → Pixel → (Pixel → Pixel) → ℕ → ℕ → ℕ → (a p q : Three) → Type 0
RowsPutIf r tops f from to n a p q =
    Tells r (FineParts tops from n a) × (r ≡ true → RowsPut f from to n a p q)
