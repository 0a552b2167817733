-- A client's replies among those of all, by their tags, are those of its own steps; and but for its tags' numbers they are told apart.
use Rattle.std.proofs.Common.{◌≡◌, ℕ, ◌+◌, ◌*◌, ◌-◌, ◌/◌, ◌≤◌, Bool, true, false, cond, List, [], ◌∷◌, ◌++◌, filter, map, Option, Some, None}
use Rattle.std.proofs.Common.{option_map, option_to_list, refl, arith, ap, sym, subst, ◌∙◌}
use Rattle.std.specs.Prelude.{◌==◌}
use Rattle.std.specs.Option.{option_map_or}
use Rattle.std.proofs.lemmas.Bool.{eqb-true}
use Rattle.std.proofs.lemmas.Nat.{div-add-mod'}
use Rattle.std.proofs.lemmas.List.{map-append}
use Rattle.std.proofs.lemmas.List.Elements.{filter-append}
use Rattle.uas_profile.proofs.TagLaws.{client-before}
use Rattle.scsi_cmd.specs.declared.Reply.{Reply}
use Rattle.scsi_cmd.specs.declared.Reply.TheVariants.{Status, Aborted, Task}
use Rattle.scsi_cmd.specs.Replies.{reply_tag}
use Rattle.shared_machine.specs.declared.Outcome.{Outcome}
use Rattle.shared_machine.specs.Part.{own_tag}
use Rattle.isolation.specs.Isolation.{own_replies, renumbered}
use Rattle.uas_log.specs.Booking.{replies_of}
use Rattle.log_audit.specs.Audit.{is_taken_by}
use Rattle.log_audit.proofs.Tagged.{AllTagged, IsOf, IsTagged}

-- OF ITS OWN STEPS

owner-is : (tags owner : ℕ) (reply : Reply) → IsOf tags owner reply → (reply_tag reply - 1) / tags ≡ owner
owner-is tags owner reply of =
    client-before tags owner (reply_tag reply - 1) of.slot (ap (λ tag. tag - 1) of.is ∙ less owner of.slot) of.within
  where
    less : (owner slot : ℕ) → owner * tags + slot + 1 - 1 ≡ owner * tags + slot
    less owner slot = omega arith

none-own : (b : Bool) (tags client : ℕ) → option_to_list (cond b (option_map (renumbered tags client) None) None) ≡ []
none-own true tags client = refl
none-own false tags client = refl

some-own : (b : Bool) (tags client : ℕ) (reply : Reply)
    → option_to_list (cond b (option_map (renumbered tags client) (Some reply)) None) ≡ map (renumbered tags client) (cond b (reply ∷ []) [])
some-own true tags client reply = refl
some-own false tags client reply = refl

one-own : (tags client : ℕ) (owner : Option ℕ) (reply : Option Reply) → IsTagged tags owner reply
    → option_to_list (cond (option_map_or (λ whose. whose == client) owner false) (option_map (renumbered tags client) reply) None)
    ≡ map (renumbered tags client) (filter (is_taken_by tags client) (option_to_list reply))
one-own tags client owner None is = none-own (option_map_or (λ whose. whose == client) owner false) tags client
one-own tags client None (Some reply) is = absurd is
one-own tags client (Some owner) (Some reply) is =
    some-own (owner == client) tags client reply
    ∙ ap (λ whose. map (renumbered tags client) (cond (whose == client) (reply ∷ []) [])) (sym (owner-is tags owner reply is))

pub own_replies-taken : (tags client : ℕ) (outcomes : List Outcome) → AllTagged tags outcomes
    → own_replies tags client outcomes ≡ map (renumbered tags client) (filter (is_taken_by tags client) (replies_of outcomes))
own_replies-taken tags client [] all = refl
own_replies-taken tags client (outcome ∷ rest) all =
    rw (filter-append (is_taken_by tags client) (option_to_list outcome.reply) (replies_of rest))
    (rw (map-append (renumbered tags client) (filter (is_taken_by tags client) (option_to_list outcome.reply)) (filter (is_taken_by tags client) (replies_of rest)))
    (rw (one-own tags client outcome.owner outcome.reply all.0, own_replies-taken tags client rest all.1) refl))

-- TOLD APART

-- every one of them brings back a tag
abbrev pub HaveTags : List Reply → Type 0
HaveTags [] = Unit {0}
HaveTags (reply ∷ rest) = (1 ≤ reply_tag reply) × HaveTags rest

pub replies_of-tags : (tags : ℕ) (outcomes : List Outcome) → AllTagged tags outcomes → HaveTags (replies_of outcomes)
replies_of-tags tags [] all = tt
replies_of-tags tags (outcome ∷ rest) all = go outcome.owner outcome.reply all.0 (replies_of-tags tags rest all.1)
  where
    go : (owner : Option ℕ) (reply : Option Reply) → IsTagged tags owner reply → HaveTags (replies_of rest)
        → HaveTags (option_to_list reply ++ replies_of rest)
    go owner None is others = others
    go None (Some reply) is others = absurd is
    go (Some owner) (Some reply) is others = (omega (arith, is.is), others)

-- a tag of the client has a number of its own among the client's
same-tag : (tags client mine yours : ℕ) → 1 ≤ mine → (mine - 1) / tags ≡ client → own_tag tags client yours ≡ own_tag tags client mine → yours ≡ mine
same-tag tags client mine yours some whose same =
    let least : client * tags ≤ mine - 1 = subst (λ owner. owner * tags ≤ mine - 1) whose (omega (arith, div-add-mod' (mine - 1) tags)) in
    omega (arith, some, least, same)

pub same-reply : (tags client : ℕ) (mine yours : Reply) → 1 ≤ reply_tag mine → (reply_tag mine - 1) / tags ≡ client
    → renumbered tags client yours ≡ renumbered tags client mine → yours ≡ mine
same-reply tags client (Status tag ticket status sense buffer) (Status other its_ticket its_status its_sense its_buffer) some whose same =
    let named : own_tag tags client other ≡ own_tag tags client tag = cc in
    let is : other ≡ tag = same-tag tags client tag other some whose named in
    cc
same-reply tags client (Aborted tag ticket buffer) (Aborted other its_ticket its_buffer) some whose same =
    let named : own_tag tags client other ≡ own_tag tags client tag = cc in
    let is : other ≡ tag = same-tag tags client tag other some whose named in
    cc
same-reply tags client (Task tag ticket code) (Task other its_ticket its_code) some whose same =
    let named : own_tag tags client other ≡ own_tag tags client tag = cc in
    let is : other ≡ tag = same-tag tags client tag other some whose named in
    cc
same-reply tags client (Status tag ticket status sense buffer) (Aborted other its_ticket its_buffer) some whose same = cc
same-reply tags client (Status tag ticket status sense buffer) (Task other its_ticket its_code) some whose same = cc
same-reply tags client (Aborted tag ticket buffer) (Status other its_ticket its_status its_sense its_buffer) some whose same = cc
same-reply tags client (Aborted tag ticket buffer) (Task other its_ticket its_code) some whose same = cc
same-reply tags client (Task tag ticket code) (Status other its_ticket its_status its_sense its_buffer) some whose same = cc
same-reply tags client (Task tag ticket code) (Aborted other its_ticket its_buffer) some whose same = cc

-- every one of them brings back a tag of the client
abbrev pub AreOwn : ℕ → ℕ → List Reply → Type 0
AreOwn tags client [] = Unit {0}
AreOwn tags client (reply ∷ rest) = (1 ≤ reply_tag reply) × ((reply_tag reply - 1) / tags ≡ client) × AreOwn tags client rest

pub filter-own : (tags client : ℕ) (replies : List Reply) → HaveTags replies → AreOwn tags client (filter (is_taken_by tags client) replies)
filter-own tags client [] all = tt
filter-own tags client (reply ∷ rest) all = go (is_taken_by tags client reply) refl (filter-own tags client rest all.1)
  where
    go : (b : Bool) → is_taken_by tags client reply ≡ b → AreOwn tags client (filter (is_taken_by tags client) rest)
        → AreOwn tags client (cond b (reply ∷ filter (is_taken_by tags client) rest) (filter (is_taken_by tags client) rest))
    go true is others = (all.0, eqb-true _ _ is, others)
    go false is others = others

pub same-replies : (tags client : ℕ) (mine yours : List Reply) → AreOwn tags client mine →
    map (renumbered tags client) yours ≡ map (renumbered tags client) mine → yours ≡ mine
same-replies tags client [] [] own same = refl
same-replies tags client [] (reply ∷ rest) own same = cc
same-replies tags client (reply ∷ rest) [] own same = cc
same-replies tags client (mine ∷ ours) (yours ∷ theirs) own same =
    let first : renumbered tags client yours ≡ renumbered tags client mine = cc in
    let others : map (renumbered tags client) theirs ≡ map (renumbered tags client) ours = cc in
    let one : yours ≡ mine = same-reply tags client mine yours own.0 own.1 first in
    let all : theirs ≡ ours = same-replies tags client ours theirs own.2 others in
    cc
