-- What is left in a lent slice (document 01, "Refusal numbers").
use Rattle.std.specs.Prelude.{List, ◌++◌, drop, length}

-- some numbers over the front of a slice: "Room beyond what is needed is not touched."
abbrev pub over : {A : Type 0} → List A → List A → List A
over values slice = values ++ drop (length values) slice
