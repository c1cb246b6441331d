-- What a survey is printed as. Bytes are numbers below 256; letters are their ASCII codes. Assumes nothing.
use Rattle.std.specs.Prelude.{List, [], ◌∷◌, ◌++◌, ℕ, ◌+◌, eqb, decimal, Result, Ok, Err}
use Rattle.std.specs.Fmt.{signed_decimal}
use Rattle.definition.specs.Base.{branch}
use Rattle.definition.specs.declared.Report.{Report}

-- its number, state, guards, handles, items held and distance
abbrev pub words_of : ℕ → Report → List ℕ
words_of p r = decimal p ++ 32 ∷ (decimal r.state ++ 32 ∷ (decimal r.guards ++ 32 ∷ (decimal r.handles ++ 32 ∷ (decimal r.held
    ++ 32 ∷ (signed_decimal r.distance ++ 10 ∷ [])))))

-- the line of slot p: none where it is free
unfoldable pub line_of : ℕ → Report → List ℕ
line_of p r = branch (eqb r.state 0) [] (words_of p r)

-- and those of all slots from p on
unfoldable pub lines_of : ℕ → List Report → List ℕ
lines_of p [] = []
lines_of p (r ∷ l) = line_of p r ++ lines_of (p + 1) l

-- `refused R` where it is refused
unfoldable pub survey_text : Result (List Report) ℕ → List ℕ
survey_text (Err r) = 114 ∷ 101 ∷ 102 ∷ 117 ∷ 115 ∷ 101 ∷ 100 ∷ 32 ∷ (decimal r ++ 10 ∷ [])
survey_text (Ok l) = lines_of 0 l
