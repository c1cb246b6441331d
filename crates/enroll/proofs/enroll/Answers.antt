-- What its callees promise of the lists, one after another.
use Rattle.definition.specs.Links.{null}
use Rattle.definition.specs.Layout.{global_words, slot_bits}
use Rattle.enroll.proofs.Chain.{bits_ok, bit_ok, row_ok, next_ok, word_ok, place_ok, carried}
use Rattle.enroll.proofs.enroll.Goals as goal

pub first_free-p-requires : goal.first_free-p-requires
unfolding global_words slot_bits
first_free-p-requires c =
    let bits = bits_ok _ _ c.requires _ c.read.ensures.lists in
    rw c.slots-slots.ensures (record { few = bits.small; there = bits.long; none_beyond = bits.inside })

pub take-requires : goal.take-requires
unfolding slot_bits
take-requires c =
    let least = rw c.slots-slots.ensures at c.first_free-p.ensures in
    rw c.slots-slots.ensures (bit_ok _ _ c.requires _ c.read.ensures.lists _ least)

pub write_word-requires : goal.write_word-requires
unfolding slot_bits
write_word-requires c =
    let least = rw c.slots-slots.ensures at c.first_free-p.ensures in
    row_ok _ _ c.requires _ c.read.ensures.lists _ least

pub write_word-requires-2 : goal.write_word-requires-2
unfolding slot_bits
write_word-requires-2 c =
    let least = rw c.slots-slots.ensures at c.first_free-p.ensures in
    next_ok _ _ c.requires _ c.read.ensures.lists _ least _ _ _ c.write_word.ensures.written

pub store-requires : goal.store-requires
unfolding slot_bits
store-requires c =
    let least = rw c.slots-slots.ensures at c.first_free-p.ensures in
    let row = word_ok _ _ c.requires _ c.read.ensures.lists _ least _ _ _ c.write_word.ensures.written _ _ c.write_word-2.ensures.written in
    (row, place_ok _ c.new_participant.ensures)

pub returns-clause-enrolled : goal.returns-clause-enrolled
unfolding null slot_bits
returns-clause-enrolled c = carried _ _ _ _ _ _ _ _ _ _ (record {
  read = c.read.ensures.lists;
  least = rw c.slots-slots.ensures at c.first_free-p.ensures;
  take = rw c.slots-slots.ensures at c.take.ensures.taken;
  words = c.take.ensures.fit;
  next = c.write_word.ensures.written;
  epoch = c.starting.ensures;
  word = c.write_word-2.ensures.written;
  new = c.new_participant.ensures;
  store = c.store.ensures;
})
