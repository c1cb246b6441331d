-- What is printed at the end. Bytes are numbers below 256; letters are their ASCII codes. Assumes nothing.
use Rattle.std.specs.Prelude.{List, [], ◌∷◌, ◌++◌, ℕ, decimal, Option, Some, None}
use Rattle.replay.specs.declared.Course.{Course}
use Rattle.replay.specs.declared.Difference.{Difference}
use Rattle.replay.specs.declared.Where.{Where}

-- the number of what differs: a cell's own, which is below 20,496, or one of the two after these (in digits: a wrong constant of the code breaks it)
abbrev pub number_of : Where → ℕ
number_of (Where.Cell c) = c
number_of Where.Answer = 20496
number_of Where.Freed = 20497

-- `K schedules`
abbrev pub schedules_line : ℕ → List ℕ
schedules_line k = decimal k ++ 32 ∷ 115 ∷ 99 ∷ 104 ∷ 101 ∷ 100 ∷ 117 ∷ 108 ∷ 101 ∷ 115 ∷ 10 ∷ []

-- `K records`
abbrev pub records_line : ℕ → List ℕ
records_line k = decimal k ++ 32 ∷ 114 ∷ 101 ∷ 99 ∷ 111 ∷ 114 ∷ 100 ∷ 115 ∷ 10 ∷ []

-- `K words`
abbrev pub words_line : ℕ → List ℕ
words_line k = decimal k ++ 32 ∷ 119 ∷ 111 ∷ 114 ∷ 100 ∷ 115 ∷ 10 ∷ []

-- `K lines not understood`
abbrev pub odd_line : ℕ → List ℕ
odd_line k = decimal k ++ 32 ∷ 108 ∷ 105 ∷ 110 ∷ 101 ∷ 115 ∷ 32 ∷ 110 ∷ 111 ∷ 116 ∷ 32
    ∷ 117 ∷ 110 ∷ 100 ∷ 101 ∷ 114 ∷ 115 ∷ 116 ∷ 111 ∷ 111 ∷ 100 ∷ 10 ∷ []

-- `K differences`
abbrev pub differences_line : ℕ → List ℕ
differences_line k = decimal k ++ 32 ∷ 100 ∷ 105 ∷ 102 ∷ 102 ∷ 101 ∷ 114 ∷ 101 ∷ 110 ∷ 99 ∷ 101 ∷ 115 ∷ 10 ∷ []

-- `L is the line of the first`
abbrev pub first_line : ℕ → List ℕ
first_line k = decimal k ++ 32 ∷ 105 ∷ 115 ∷ 32 ∷ 116 ∷ 104 ∷ 101 ∷ 32 ∷ 108 ∷ 105 ∷ 110 ∷ 101 ∷ 32 ∷ 111 ∷ 102 ∷ 32
    ∷ 116 ∷ 104 ∷ 101 ∷ 32 ∷ 102 ∷ 105 ∷ 114 ∷ 115 ∷ 116 ∷ 10 ∷ []

-- `C is its cell, 20496 the answer, 20497 the freed tokens`
abbrev pub cell_line : Where → List ℕ
cell_line w = decimal (number_of w) ++ 32 ∷ 105 ∷ 115 ∷ 32 ∷ 105 ∷ 116 ∷ 115 ∷ 32 ∷ 99 ∷ 101 ∷ 108 ∷ 108 ∷ 44 ∷ 32
    ∷ (decimal 20496 ++ 32 ∷ 116 ∷ 104 ∷ 101 ∷ 32 ∷ 97 ∷ 110 ∷ 115 ∷ 119 ∷ 101 ∷ 114 ∷ 44 ∷ 32
    ∷ (decimal 20497 ++ 32 ∷ 116 ∷ 104 ∷ 101 ∷ 32 ∷ 102 ∷ 114 ∷ 101 ∷ 101 ∷ 100 ∷ 32 ∷ 116 ∷ 111 ∷ 107 ∷ 101 ∷ 110 ∷ 115 ∷ 10 ∷ []))

-- both lines of a difference
abbrev pub difference_text : Difference → List ℕ
difference_text d = first_line d.line ++ cell_line d.at

-- what was compared, and how many differ
abbrev pub counts_text : Course → List ℕ
counts_text c = schedules_line c.schedules ++ (records_line c.records ++ (words_line c.words ++ (odd_line c.odd ++ differences_line c.differ)))

-- a text, and behind it the lines of a difference, where there is one
abbrev pub text_with : List ℕ → Option Difference → List ℕ
text_with s None = s
text_with s (Some d) = s ++ difference_text d

-- all of it
abbrev pub course_text : Course → List ℕ
course_text c = text_with (counts_text c) c.first
