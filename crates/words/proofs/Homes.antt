-- Where a shared word stands: its list is long enough there, and a read and a store there are those of the word. Assumes nothing.
use Rattle.std.proofs.Common.{◌≡◌, ℕ, ◌+◌, ◌*◌, ◌≤◌, ◌<◌, List, length, get_or, set, refl, sym, ap, arith}
use Rattle.std.proofs.lemmas.Grind.{common_steps}
use native.Mathlib.Nat.{add-zero}
use Rattle.definition.specs.Base.{branch}
use Rattle.definition.specs.Tables.{read}
use Rattle.definition.specs.Layout.{Lent, participant_words, node_words, cell, shared_from}
use Rattle.definition.specs.declared.Word.{Word}
use Rattle.words.specs.declared.Home.{Home}
use Rattle.words.specs.Words.{home_of, word_in, word_of, write_globals, write_participants, write_nodes}

-- its list is long enough
abbrev pub in_list : Home → Lent → Type 0
in_list (Home.Globals i) l = i < length l.globals
in_list (Home.Participants p i) l = (p * 21 + 21 ≤ length l.participants) × (i < 21)
in_list (Home.Nodes k) l = k * 3 + 3 ≤ length l.nodes

in_home : (w : Word) (l : Lent) → word_in w l → in_list (home_of w) l
in_home Word.GlobalEpoch l h = omega arith
in_home Word.ListHead l h = omega arith
in_home (Word.EntryNext i) l h = (h, omega arith)
in_home (Word.ParticipantWord i) l h = (h, omega arith)
in_home Word.QueueHead l h = omega arith
in_home Word.QueueTail l h = omega arith
in_home (Word.NodeNext k) l h = h

pub stands : (w : Word) (l : Lent) (h : Home) → h ≡ home_of w → word_in w l → in_list h l
stands w l h e i = rw e (in_home w l i)

-- its value
abbrev pub value_at : Home → Lent → ℕ
value_at (Home.Globals i) l = get_or l.globals i 0
value_at (Home.Participants p i) l = get_or l.participants (p * 21 + i) 0
value_at (Home.Nodes k) l = get_or l.nodes (k * 3) 0

at_home : (w : Word) (l : Lent) → value_at (home_of w) l ≡ word_of w l
unfolding read shared_from cell participant_words node_words branch
at_home Word.GlobalEpoch l = refl
at_home Word.ListHead l = refl
at_home (Word.EntryNext i) l = refl
at_home (Word.ParticipantWord i) l = refl
at_home Word.QueueHead l = refl
at_home Word.QueueTail l = refl
at_home (Word.NodeNext k) l = ap (λ (j : ℕ). get_or l.nodes j 0) (sym (add-zero (k.0 * 3)))

pub found : (w : Word) (l : Lent) (h : Home) → h ≡ home_of w → value_at h l ≡ word_of w l
found w l h e = rw e (at_home w l)

-- a list after a store where a word stands
abbrev pub set_globals : Home → ℕ → List ℕ → List ℕ
set_globals (Home.Globals i) v g = set g i v
set_globals (Home.Participants p i) v g = g
set_globals (Home.Nodes k) v g = g

abbrev pub set_participants : Home → ℕ → List ℕ → List ℕ
set_participants (Home.Globals i) v ps = ps
set_participants (Home.Participants p i) v ps = set ps (p * 21 + i) v
set_participants (Home.Nodes k) v ps = ps

abbrev pub set_nodes : Home → ℕ → List ℕ → List ℕ
set_nodes (Home.Globals i) v n = n
set_nodes (Home.Participants p i) v n = n
set_nodes (Home.Nodes k) v n = set n (k * 3) v

pub wrote_globals : (w : Word) (v : ℕ) (g : List ℕ) → write_globals w v g ≡ set_globals (home_of w) v g
unfolding write_globals
wrote_globals Word.GlobalEpoch v g = refl
wrote_globals Word.ListHead v g = refl
wrote_globals (Word.EntryNext i) v g = refl
wrote_globals (Word.ParticipantWord i) v g = refl
wrote_globals Word.QueueHead v g = refl
wrote_globals Word.QueueTail v g = refl
wrote_globals (Word.NodeNext k) v g = refl

pub wrote_participants : (w : Word) (v : ℕ) (ps : List ℕ) → write_participants w v ps ≡ set_participants (home_of w) v ps
unfolding write_participants
wrote_participants Word.GlobalEpoch v ps = refl
wrote_participants Word.ListHead v ps = refl
wrote_participants (Word.EntryNext i) v ps = refl
wrote_participants (Word.ParticipantWord i) v ps = rw (add-zero (i.0 * 21)) refl
wrote_participants Word.QueueHead v ps = refl
wrote_participants Word.QueueTail v ps = refl
wrote_participants (Word.NodeNext k) v ps = refl

pub wrote_nodes : (w : Word) (v : ℕ) (n : List ℕ) → write_nodes w v n ≡ set_nodes (home_of w) v n
unfolding write_nodes
wrote_nodes Word.GlobalEpoch v n = refl
wrote_nodes Word.ListHead v n = refl
wrote_nodes (Word.EntryNext i) v n = refl
wrote_nodes (Word.ParticipantWord i) v n = refl
wrote_nodes Word.QueueHead v n = refl
wrote_nodes Word.QueueTail v n = refl
wrote_nodes (Word.NodeNext k) v n = refl

-- what a store needs: that the word is in its list, what is left of each list, and the usual steps
pub ruleset stores = (stands, wrote_globals, wrote_participants, wrote_nodes, common_steps)
