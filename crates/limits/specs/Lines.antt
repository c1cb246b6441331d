-- What is printed of a case. Bytes are numbers below 256; letters are their ASCII codes. Assumes nothing.
use Rattle.std.specs.Prelude.{List, [], ◌∷◌, ◌++◌, ℕ, decimal}
use Rattle.definition.specs.declared.Answer.{Answer}
use Rattle.limits.specs.declared.Line.{Line}

-- `done V`, `more` or `refused R`, as the schedule program has them, with std's `decimal`
abbrev pub answer_text : Answer → List ℕ
answer_text (Answer.Done v k) = 100 ∷ 111 ∷ 110 ∷ 101 ∷ 32 ∷ decimal v
answer_text (Answer.More k) = 109 ∷ 111 ∷ 114 ∷ 101 ∷ []
answer_text (Answer.Refused r) = 114 ∷ 101 ∷ 102 ∷ 117 ∷ 115 ∷ 101 ∷ 100 ∷ 32 ∷ decimal r

-- the four answers, with `, ` between them, and the line's end
abbrev pub answers_text : Line → List ℕ
answers_text l = answer_text l.start.0 ++ 44 ∷ 32 ∷ (answer_text l.register.0 ++ 44 ∷ 32 ∷ (answer_text l.pin.0 ++ 44 ∷ 32 ∷ (answer_text l.step.0
    ++ 10 ∷ [])))

-- `N n, M m, case k, `, and those
abbrev pub line_of : Line → List ℕ
line_of l = 78 ∷ 32 ∷ (decimal l.n ++ 44 ∷ 32 ∷ 77 ∷ 32 ∷ (decimal l.m ++ 44 ∷ 32 ∷ 99 ∷ 97 ∷ 115 ∷ 101 ∷ 32 ∷ (decimal l.case
    ++ 44 ∷ 32 ∷ answers_text l)))
