-- A client's tags, and their indexes, for each number of tags. Cited by `post`, `look`, `is_free` and the steps of `close`.
use Rattle.std.proofs.Common.{◌≡◌, ℕ, suc, ◌+◌, ◌*◌, ◌<◌, ◌≤◌, sym, ap, ◌∙◌, arith, length, mul_comm, slice_index_or}
use Rattle.std.proofs.lemmas.Nat.{mul-add-lt, mul-le, div-mul-add, mod-mul-add}
use Rattle.uas_profile.specs.Tags.{client_of, slot_of}
use Rattle.uas_profile.proofs.TagLaws.{place-of_its_tag, slots-below_tags}
use Rattle.tag_desk.specs.Seats.{ClientLine, Customer, IsCustomer, IsTagOf}

-- a client's tag by its slot
pub tag_by_slot : (tags client tag : ℕ) → 0 < tags → IsTagOf tags client tag → tag ≡ tags * client + slot_of tags tag + 1
tag_by_slot tags client tag some own =
    sym (place-of_its_tag tags tag some own.0) ∙ ap (λ c. c * tags + slot_of tags tag + 1) own.1
    ∙ ap (λ n. n + slot_of tags tag + 1) (mul_comm client tags)

-- it is one of all clients' tags
pub tag_within : (tags client clients tag : ℕ) → 0 < tags → IsTagOf tags client tag → client < clients → tag ≤ tags * clients
tag_within tags client clients tag some own below =
    let by = tag_by_slot tags client tag some own in
    let low = slots-below_tags tags tag some in
    let turned = mul_comm tags client in
    let all = mul_comm tags clients in
    omega (arith, mul-add-lt client tags (slot_of tags tag) clients below low)

-- the client's tags from one on, and to the next client's
pub row_within : (tags client clients : ℕ) → client < clients → tags * client + tags ≤ tags * clients
row_within tags client clients below = omega (arith, mul-le tags (client + 1) tags clients (omega arith) (omega arith))

-- the client and the slot of an index
pub client_at : (tags client k : ℕ) → k < tags → client_of tags (suc (tags * client + k)) ≡ client
client_at tags client k short = ap (λ n. client_of tags (suc (n + k))) (mul_comm tags client) ∙ div-mul-add client tags k short

pub slot_at : (tags client k : ℕ) → k < tags → slot_of tags (suc (tags * client + k)) ≡ k
slot_at tags client k short = ap (λ n. slot_of tags (suc (n + k))) (mul_comm tags client) ∙ mod-mul-add client tags k short

-- the line of a client's tag is there, and is that tag's
pub line_there : (seat : Customer) (tag : ℕ) → IsCustomer seat → slot_of seat.tags tag < length seat.lines
line_there seat tag is =
    let least = is.4.least in
    let low = slots-below_tags seat.tags tag (omega arith) in
    let count = is.0 in
    omega arith

pub line_named : (seat : Customer) (tag k : ℕ) (d : ClientLine) → IsCustomer seat → IsTagOf seat.tags seat.client tag → k ≡ slot_of seat.tags tag
    → (slice_index_or seat.lines k d).index + 1 ≡ tag
line_named seat tag k d is own place =
    let least = is.4.least in
    let there = line_there seat tag is in
    let by = tag_by_slot seat.tags seat.client tag (omega arith) own in
    let count = is.0 in
    let index = is.1 k d (omega arith) in
    omega arith
