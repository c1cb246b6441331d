-- What the places of queue.rs must carry so that their accesses are made of words: indices that a pointer can name. Assumes nothing.
use Rattle.flow.specs.Words.{IsIndex}
use Rattle.definition.specs.declared.PopAt.{PopAt}
use Rattle.definition.specs.declared.PushAt.{PushAt}

-- `Queue::push`: the nodes that an exchange names
abbrev pub PushFits : PushAt → Type 0
PushFits PushAt.Epoch = Unit
PushFits (PushAt.Tail new) = Unit
PushFits (PushAt.Next new onto) = Unit
PushFits (PushAt.Help new onto next) = IsIndex onto.0 × IsIndex next.0
PushFits (PushAt.Link new onto) = IsIndex new.0
PushFits (PushAt.Move new onto) = IsIndex onto.0 × IsIndex new.0

-- `Queue::pop_if_internal`: the same
abbrev pub PopFits : PopAt → Type 0
PopFits PopAt.Head = Unit
PopFits (PopAt.Next head) = Unit
PopFits (PopAt.Exchange head next) = IsIndex head.0 × IsIndex next.0
PopFits (PopAt.Tail head next) = Unit
PopFits (PopAt.TailMove head next) = IsIndex head.0 × IsIndex next.0
