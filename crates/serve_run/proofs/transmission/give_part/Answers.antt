use Rattle.std.proofs.Common.{◌≡◌, ◌+◌, ◌-◌, ◌≤◌, ◌++◌, ◌∙◌, ℕ, List, [], length, take}
use Rattle.std.proofs.Common.{drop, ap, subst, arith, append-nil, drop_at, length-take-le, length-drop}
use Rattle.std.proofs.lemmas.List.{drop_all}
use Rattle.nbd.specs.declared.transmission.ErrorNumber.TheVariants as error
use Rattle.nbd.specs.Transmission.{reply_text}
use borrow.Rule.Slice.PartMut.{put_mid, post_of}
use Rattle.serve_run.proofs.Answering.{read_done, read_failed}
use Rattle.serve_run.specs.Faults.{Sends}
use Rattle.serve_run.proofs.transmission.give_part.Goals as goal

-- what stands behind the room of a reply's head, once all of that was filled
behind_head : (part filled : List ℕ) → 16 ≤ length part → drop 16 (put_mid 16 (length part - 16) part filled) ≡ filled
behind_head part filled room =
    let behind : List ℕ = post_of 16 (length part - 16) part in
    let none : behind ≡ [] = drop_all (length part - 16) (drop 16 part) (omega (arith, length-drop 16 part)) in
    drop_at (take 16 part) (filled ++ behind) 16 (length-take-le 16 part room) ∙ ap (λ (xs : List ℕ). filled ++ xs) none ∙ append-nil filled

rest_length : (part : List ℕ) (count : ℕ) → length part ≡ 16 + count → length (take (length part - 16) (drop 16 part)) ≡ count
rest_length part count size = omega (arith, length-take-le (length part - 16) (drop 16 part) (omega (arith, length-drop 16 part)))

pub returns-in-Ok-clause-answered : goal.returns-in-Ok-clause-answered
returns-in-Ok-clause-answered g c =
    let part : List ℕ = c.args.part.now in
    let room : 16 ≤ length part = omega (arith, c.requires.len) in
    let len : length c.read.new.into ≡ c.args.request.now.length =
    c.read.auto.into ∙ rest_length part c.args.request.now.length c.requires.len in
    read_done _ _ _ _ c.args.request.now c.read.new.into _ c.requires.served c.requires.command len c.in-Ok.ensures.bytes
    (subst (λ (xs : List ℕ). Sends c.send_part.result (g.O.Output.can_fail c.args.output.now) (g.O.Output.written c.args.output.now)
    (g.O.Output.written c.send_part.new.output) (reply_text (record { error = error.None; cookie = c.args.request.now.cookie }) ++ xs))
    (behind_head part c.read.new.into room) c.send_part.ensures.sent)

pub returns-in-Err-clause-answered : goal.returns-in-Err-clause-answered
returns-in-Err-clause-answered g c =
    read_failed _ _ _ _ c.args.request.now _ c.requires.served c.requires.command c.in-Err.ensures.fault c.tell.ensures.sent
