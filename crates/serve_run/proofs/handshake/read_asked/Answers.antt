use Rattle.std.proofs.Common.{◌≡◌, ℕ, ◌+◌, ◌-◌, ◌<◌, ◌≤◌, List, [], length, refl, arith}
use Rattle.std.proofs.lemmas.Result.{err_from_is_err_and}
use Rattle.std.proofs.KnownBytes.{Consumes-nil}
use Rattle.byteorder.specs.Endian.{big_number}
use Rattle.serve_run.proofs.Asking.{asked_beyond, asked_whole}
use Rattle.serve_run.proofs.Sending.{cut_behind}
use Rattle.serve_run.proofs.handshake.read_asked.Goals as goal

pub returns-in_default-checked_sub-clause-tested : goal.returns-in_default-checked_sub-clause-tested
returns-in_default-checked_sub-clause-tested g c =
    let size : List ℕ = c.read_rest.new.buffer in
    let four : length size ≡ 4 = omega arith in
    let room : 6 ≤ c.args.length = omega (arith, c.in-Some.ensures) in
    let short : c.args.length < 6 + big_number 4 size = omega (arith, c.in-Some.ensures, c.in_default-checked_sub.ensures, c.read_u32.ensures) in
    asked_beyond c.args.length size _ _ _ four room short c.in_ok-read_rest.ensures.bytes c.in_ok-drop_rest-2.ensures.bytes

pub returns-clause-tested : goal.returns-clause-tested
returns-clause-tested g c =
    let size : List ℕ = c.read_rest.new.buffer in
    let number : List ℕ = c.read_rest-2.new.buffer in
    let behind_name : ℕ = c.in-Some.behind_name in
    let numbers : ℕ = c.in-Some-checked_sub.numbers in
    let four : length size ≡ 4 = omega arith in
    let two : length number ≡ 2 = omega arith in
    let named : behind_name - numbers ≡ big_number 4 size = omega (arith, c.in-Some.ensures, c.in-Some-checked_sub.ensures, c.read_u32.ensures) in
    let sum : c.args.length ≡ 6 + (behind_name - numbers) + numbers = omega (arith, c.in-Some.ensures, c.in-Some-checked_sub.ensures) in
    let asked : c.from.result ≡ big_number 2 number = omega (arith, c.read_u16.ensures, c.from.ensures) in
    asked_whole c.args.length (behind_name - numbers) numbers c.from.result size number _ _ _ _ _ four two named sum asked
    c.in_ok-read_rest.ensures.bytes c.in_ok-drop_rest-3.ensures.bytes c.in_ok-read_rest-2.ensures.bytes c.in_ok-drop_rest-4.ensures.bytes

-- WHERE A PART DOESN'T COME

pub returns-in_err-read_rest-clause-cut : goal.returns-in_err-read_rest-clause-cut
returns-in_err-read_rest-clause-cut g c =
    let room : 6 ≤ c.args.length = omega (arith, c.in-Some.ensures) in
    let p = err_from_is_err_and c.from_residual-in_err-read_rest.result c.from_residual-in_err-read_rest.ensures.1 in
    rw (p.1, p.2) (cut_behind _ _ _ c.args.length 4 _ _ _ [] refl (omega (arith, room)) (Consumes-nil _) c.in_err-read_rest.ensures.cut)

pub returns-in_err-drop_rest-2-clause-cut : goal.returns-in_err-drop_rest-2-clause-cut
returns-in_err-drop_rest-2-clause-cut g c =
    let size : List ℕ = c.read_rest.new.buffer in
    let room : 6 ≤ c.args.length = omega (arith, c.in-Some.ensures) in
    let p = err_from_is_err_and c.from_residual-in_err-drop_rest-2.result c.from_residual-in_err-drop_rest-2.ensures.1 in
    rw (p.1, p.2) (cut_behind _ _ _ c.args.length (c.args.length - 4) _ _ _ size c.in_ok-read_rest.ensures.same (omega (arith, room))
    c.in_ok-read_rest.ensures.bytes c.in_err-drop_rest-2.ensures.cut)

pub returns-in_err-drop_rest-3-clause-cut : goal.returns-in_err-drop_rest-3-clause-cut
returns-in_err-drop_rest-3-clause-cut g c =
    let size : List ℕ = c.read_rest.new.buffer in
    let p = err_from_is_err_and c.from_residual-in_err-drop_rest-3.result c.from_residual-in_err-drop_rest-3.ensures.1 in
    rw (p.1, p.2) (cut_behind _ _ _ c.args.length (c.in-Some.behind_name - c.in-Some-checked_sub.numbers) _ _ _ size c.in_ok-read_rest.ensures.same
    (omega (arith, c.in-Some.ensures, c.in-Some-checked_sub.ensures)) c.in_ok-read_rest.ensures.bytes c.in_err-drop_rest-3.ensures.cut)

pub returns-in_err-read_rest-2-clause-cut : goal.returns-in_err-read_rest-2-clause-cut
returns-in_err-read_rest-2-clause-cut g c =
    let size : List ℕ = c.read_rest.new.buffer in
    let name = c.in_ok-drop_rest-3.ensures.bytes in
    let p = err_from_is_err_and c.from_residual-in_err-read_rest-2.result c.from_residual-in_err-read_rest-2.ensures.1 in
    rw (p.1, p.2) (cut_behind _ _ _ c.args.length (c.in-Some.behind_name - c.in-Some-checked_sub.numbers + 2) _ _ _ size c.in_ok-read_rest.ensures.same
    (omega (arith, c.in-Some.ensures, c.in-Some-checked_sub.ensures)) c.in_ok-read_rest.ensures.bytes
    (cut_behind _ _ _ _ 2 _ _ _ name.bytes c.in_ok-drop_rest-3.ensures.same (omega (arith, name.len)) name.read c.in_err-read_rest-2.ensures.cut))

pub returns-in_err-drop_rest-4-clause-cut : goal.returns-in_err-drop_rest-4-clause-cut
returns-in_err-drop_rest-4-clause-cut g c =
    let size : List ℕ = c.read_rest.new.buffer in
    let number : List ℕ = c.read_rest-2.new.buffer in
    let name = c.in_ok-drop_rest-3.ensures.bytes in
    let numbers : ℕ = c.in-Some-checked_sub.numbers in
    let p = err_from_is_err_and c.from_residual-in_err-drop_rest-4.result c.from_residual-in_err-drop_rest-4.ensures.1 in
    rw (p.1, p.2) (cut_behind _ _ _ c.args.length (c.in-Some.behind_name - numbers + (2 + numbers)) _ _ _ size c.in_ok-read_rest.ensures.same
    (omega (arith, c.in-Some.ensures, c.in-Some-checked_sub.ensures)) c.in_ok-read_rest.ensures.bytes
    (cut_behind _ _ _ _ (2 + numbers) _ _ _ name.bytes c.in_ok-drop_rest-3.ensures.same (omega (arith, name.len)) name.read
    (cut_behind _ _ _ _ numbers _ _ _ number c.in_ok-read_rest-2.ensures.same (omega arith) c.in_ok-read_rest-2.ensures.bytes
    c.in_err-drop_rest-4.ensures.cut)))
