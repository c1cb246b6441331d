-- What a place must carry so that its access is made of words: indices that a pointer can name. The place of a participant in range
-- does (`place-fits` of proofs/Laws). Assumes nothing.
use Rattle.list.specs.Fits.{RegisterFits, WalkFits}
use Rattle.queue.specs.Fits.{PushFits, PopFits}
use Rattle.definition.specs.declared.Place.{Place}
use Rattle.definition.specs.declared.Slot.{Slot}

-- the place at which the participant `me` stands
abbrev pub PlaceFits : Slot → Place → Type 0
PlaceFits me Place.Rest = Unit
PlaceFits me (Place.Register at) = RegisterFits me at
PlaceFits me (Place.PinEpoch owner) = Unit
PlaceFits me (Place.PinWord owner e) = Unit
PlaceFits me (Place.Repin at) = Unit
PlaceFits me Place.UnpinWord = Unit
PlaceFits me (Place.AdvanceEpoch owner) = Unit
PlaceFits me (Place.Walk t at) = WalkFits at
PlaceFits me (Place.AdvanceWord t curr succ) = Unit
PlaceFits me (Place.AdvanceStore t) = Unit
PlaceFits me (Place.Pop p at) = PopFits at
PlaceFits me (Place.Push then at) = PushFits at
PlaceFits me Place.FinalWord = Unit
PlaceFits me Place.FinalTag = Unit
