-- Widths and areas of a case's blocks (document 01, "A lateral face"): along a row L are column widths and W is the row width, along a column
-- the other way round. Axis 0 leads along a row, 1 along a column.
use Rattle.std.specs.Prelude.{List, ◌+◌, suc, zero, ℕ, ◌*ℤ◌, pos, ℤ, get_or}
use Rattle.grid.specs.declared.place.Place.{Place}
use Rattle.grid.specs.Place.{place_of}
use Rattle.slices.specs.Slices.{Case}
use Rattle.flow.specs.declared.lateral.Face.{Face}

-- the width of a column, and of a row, in metres
abbrev pub width_at : List ℤ → ℕ → ℤ
width_at widths k = get_or widths k (pos 0)

-- "widths L1, L2 along the line"
abbrev pub along_at : List ℤ → List ℤ → Place → ℕ → ℤ
along_at columns rows p zero = width_at columns p.column
along_at columns rows p (suc d) = width_at rows p.row

-- a face to the next column, and one to the next row: "widths L1, L2 along the line and W across"
abbrev pub face_at : List ℤ → List ℤ → Place → ℕ → Face
face_at columns rows p zero = record { low = width_at columns p.column; high = width_at columns (p.column + 1); across = width_at rows p.row }
face_at columns rows p (suc d) = record { low = width_at rows p.row; high = width_at rows (p.row + 1); across = width_at columns p.column }

-- the area of "porosity·area·B" and "leakance·area", m²
unfoldable pub area_at : List ℤ → List ℤ → Place → ℤ
area_at columns rows p = width_at columns p.column *ℤ width_at rows p.row

-- ---- of a block of a case

abbrev pub along_of : Case → ℕ → ℕ → ℤ
along_of c d i = along_at c.columns c.rows (place_of c.grid i) d

abbrev pub face_of : Case → ℕ → ℕ → Face
face_of c d i = face_at c.columns c.rows (place_of c.grid i) d

abbrev pub area_of : Case → ℕ → ℤ
area_of c i = area_at c.columns c.rows (place_of c.grid i)
