-- Requests and replies, and their bytes, give each other back.
use Rattle.std.proofs.Common.{◌≡◌, ℕ, ◌+◌, ◌^◌, ◌<◌, ◌≤◌, true, false, cond, List, [], ◌++◌, length, take, drop, Result, Ok, Err, refl, ap, sym, ◌∙◌, arith, rules}
use Rattle.std.specs.Prelude.{◌==◌, IfOk}
use Rattle.std.proofs.lemmas.Bool.{eqb-true}
use Rattle.std.proofs.lemmas.List.{length-drop, take-append-drop, take_all, drop-drop}
use Rattle.byteorder.specs.Endian.{big_bytes, big_number}
use Rattle.byteorder.specs.Numbers.{big_number-reads_back}
use Rattle.nbd.specs.declared.NotNbd.{NotNbd}
use Rattle.nbd.specs.declared.transmission.Reply.{Reply}
use Rattle.nbd.specs.declared.transmission.Request.{Request}
use Rattle.nbd.specs.Transmission.{FitsReply, FitsRequest, IsCommand, command_of, error_of, number_of_command, number_of_error, reply_in, reply_magic, reply_text}
use Rattle.nbd.specs.Transmission.{request_in, request_magic, request_text}
use Rattle.nbd.specs.declared.flags.ServerFlags.{ServerFlags}
use Rattle.nbd.specs.declared.handshake.Export.{Export}
use Rattle.nbd.specs.declared.handshake.OptionHead.{OptionHead}
use Rattle.nbd.specs.declared.handshake.OptionReply.{OptionReply}
use Rattle.nbd.specs.Handshake.{FitsExport, FitsOption, FitsOptionReply, export_in, export_text, greeting_in, greeting_text, kind_of, number_of_kind}
use Rattle.nbd.specs.Handshake.{number_of_option, option_in, option_of, option_reply_in, option_reply_text, option_text}
use Rattle.byte_numbers.specs.Bytes.{AreBytes}
use Rattle.byte_numbers.proofs.Bytes.{bytes_dropped}
use Rattle.byte_numbers.proofs.Numbers.{number_bytes}

-- requests and replies with the same parts
same_request : (f n k o l : ℕ) (r : Request) → f ≡ r.flags.0 → n ≡ number_of_command r.command → command_of (number_of_command r.command) ≡ r.command
    → k ≡ r.cookie → o ≡ r.offset → l ≡ r.length
    → ◌≡◌ {A = Request} (record { flags = record { 0 = f }; command = command_of n; cookie = k; offset = o; length = l }) r
same_request f n k o l r a b named c d e = rw (a, b, named, c, d, e) refl

same_reply : (n k : ℕ) (r : Reply) → n ≡ number_of_error r.error → error_of (number_of_error r.error) ≡ r.error → k ≡ r.cookie
    → ◌≡◌ {A = Reply} (record { error = error_of n; cookie = k }) r
same_reply n k r a named b = rw (a, named, b) refl

-- what a request's bytes are read as
pub request_in-request_text : (r : Request) → FitsRequest r → request_in (request_text r) ≡ Ok r
unfolding request_in request_text
request_in-request_text r fits =
    let length_text : List ℕ = big_bytes 4 r.length in
    let offset_text : List ℕ = big_bytes 8 r.offset ++ length_text in
    let cookie_text : List ℕ = big_bytes 8 r.cookie ++ offset_text in
    let command_text : List ℕ = big_bytes 2 (number_of_command r.command) ++ cookie_text in
    let good : Request → Result Request NotNbd = λ x. Ok x in
    ap good (same_request _ _ _ _ _ r
    (big_number-reads_back 2 r.flags.0 command_text fits.flags)
    (big_number-reads_back 2 (number_of_command r.command) cookie_text fits.command)
    fits.named
    (big_number-reads_back 8 r.cookie offset_text fits.cookie)
    (big_number-reads_back 8 r.offset length_text fits.offset)
    (big_number-reads_back 4 r.length [] fits.length))

pub reply_in-reply_text : (r : Reply) → FitsReply r → reply_in (reply_text r) ≡ Ok r
unfolding reply_in reply_text
reply_in-reply_text r fits =
    let good : Reply → Result Reply NotNbd = λ x. Ok x in
    ap good (same_reply _ _ r
    (big_number-reads_back 4 (number_of_error r.error) (big_bytes 8 r.cookie) fits.error)
    fits.named
    (big_number-reads_back 8 r.cookie [] fits.cookie))

-- THE OTHER WAY

-- a number of bytes in the middle, and what follows them
middle : (n at : ℕ) (bytes : List ℕ) (rest : List ℕ) → n + at ≤ length bytes → AreBytes bytes → rest ≡ drop (at + n) bytes
    → big_bytes n (big_number n (drop at bytes)) ++ rest ≡ drop at bytes
middle n at bytes rest long is e =
    ap (λ (front : List ℕ). front ++ rest) (number_bytes n (drop at bytes) (omega (arith, length-drop at bytes)) (bytes_dropped at bytes is))
    ∙ ap (λ (back : List ℕ). take n (drop at bytes) ++ back) (e ∙ sym (drop-drop n at bytes))
    ∙ take-append-drop n (drop at bytes)

-- the number at the end
last : (n at : ℕ) (bytes : List ℕ) → length bytes ≡ n + at → AreBytes bytes → big_bytes n (big_number n (drop at bytes)) ≡ drop at bytes
last n at bytes long is =
    number_bytes n (drop at bytes) (omega (arith, length-drop at bytes)) (bytes_dropped at bytes is)
    ∙ take_all n (drop at bytes) (omega (arith, length-drop at bytes))

number_of_command-command_of : (n : ℕ) → number_of_command (command_of n) ≡ n
number_of_command-command_of n = search (rules, eqb-true)

number_of_error-error_of : (n : ℕ) → number_of_error (error_of n) ≡ n
number_of_error-error_of n = search (rules, eqb-true)

-- bytes that are read as a request are its bytes
pub request_text-request_in : (bytes : List ℕ) → length bytes ≡ 28 → AreBytes bytes → IfOk (request_in bytes) (λ r. request_text r ≡ bytes)
unfolding request_in request_text
request_text-request_in bytes long is =
    let n : ℕ = big_number 2 (drop 6 bytes) in
    let at24 : big_bytes 4 (big_number 4 (drop 24 bytes)) ≡ drop 24 bytes = last 4 24 bytes (omega arith) is in
    let at16 : big_bytes 8 (big_number 8 (drop 16 bytes)) ++ big_bytes 4 (big_number 4 (drop 24 bytes)) ≡ drop 16 bytes = middle 8 16 bytes _ (omega arith) is at24 in
    let text16 : List ℕ = big_bytes 8 (big_number 8 (drop 16 bytes)) ++ big_bytes 4 (big_number 4 (drop 24 bytes)) in
    let at8 : big_bytes 8 (big_number 8 (drop 8 bytes)) ++ text16 ≡ drop 8 bytes = middle 8 8 bytes _ (omega arith) is at16 in
    let text8 : List ℕ = big_bytes 8 (big_number 8 (drop 8 bytes)) ++ text16 in
    let at6 : big_bytes 2 n ++ text8 ≡ drop 6 bytes = middle 2 6 bytes _ (omega arith) is at8 in
    let at4 : big_bytes 2 (big_number 2 (drop 4 bytes)) ++ (big_bytes 2 n ++ text8) ≡ drop 4 bytes = middle 2 4 bytes _ (omega arith) is at6 in
    let text4 : ℕ → List ℕ = λ m. big_bytes 2 (big_number 2 (drop 4 bytes)) ++ (big_bytes 2 m ++ text8) in
    let at0 : big_bytes 4 (big_number 4 bytes) ++ text4 n ≡ bytes = middle 4 0 bytes _ (omega arith) is at4 in
    elim (big_number 4 bytes == request_magic) as (λ b. (big_number 4 bytes == request_magic) ≡ b → IfOk (cond {A = Result Request NotNbd} b (Ok (record {
      flags = record { 0 = big_number 2 (drop 4 bytes) };
      command = command_of n;
      cookie = big_number 8 (drop 8 bytes);
      offset = big_number 8 (drop 16 bytes);
      length = big_number 4 (drop 24 bytes);
    })) (Err (record {}))) (λ r. request_text r ≡ bytes)) [
      | true ↦ λ magic.
          ap (λ (m : ℕ). big_bytes 4 request_magic ++ text4 m) (number_of_command-command_of n)
          ∙ ap (λ (m : ℕ). big_bytes 4 m ++ text4 n) (sym (eqb-true (big_number 4 bytes) request_magic magic))
          ∙ at0
      | false ↦ λ _. tt
    ] refl

-- what bytes are read as has its command's own name
command_of-named : (n : ℕ) → IsCommand (command_of n)
command_of-named n = ap command_of (number_of_command-command_of n)

pub request_in-named : (bytes : List ℕ) → IfOk (request_in bytes) (λ r. IsCommand r.command)
unfolding request_in
request_in-named bytes =
    elim (big_number 4 bytes == request_magic) as (λ b. IfOk (cond {A = Result Request NotNbd} b (Ok (record {
      flags = record { 0 = big_number 2 (drop 4 bytes) };
      command = command_of (big_number 2 (drop 6 bytes));
      cookie = big_number 8 (drop 8 bytes);
      offset = big_number 8 (drop 16 bytes);
      length = big_number 4 (drop 24 bytes);
    })) (Err (record {}))) (λ r. IsCommand r.command)) [
      | true ↦ command_of-named (big_number 2 (drop 6 bytes))
      | false ↦ tt
    ]

-- bytes that are read as a reply are its bytes
pub reply_text-reply_in : (bytes : List ℕ) → length bytes ≡ 16 → AreBytes bytes → IfOk (reply_in bytes) (λ r. reply_text r ≡ bytes)
unfolding reply_in reply_text
reply_text-reply_in bytes long is =
    let n : ℕ = big_number 4 (drop 4 bytes) in
    let text8 : List ℕ = big_bytes 8 (big_number 8 (drop 8 bytes)) in
    let at8 : text8 ≡ drop 8 bytes = last 8 8 bytes (omega arith) is in
    let at4 : big_bytes 4 n ++ text8 ≡ drop 4 bytes = middle 4 4 bytes _ (omega arith) is at8 in
    let at0 : big_bytes 4 (big_number 4 bytes) ++ (big_bytes 4 n ++ text8) ≡ bytes = middle 4 0 bytes _ (omega arith) is at4 in
    elim (big_number 4 bytes == reply_magic) as (λ b. (big_number 4 bytes == reply_magic) ≡ b → IfOk (cond {A = Result Reply NotNbd} b (Ok (record {
      error = error_of n;
      cookie = big_number 8 (drop 8 bytes);
    })) (Err (record {}))) (λ r. reply_text r ≡ bytes)) [
      | true ↦ λ magic.
          ap (λ (m : ℕ). big_bytes 4 reply_magic ++ (big_bytes 4 m ++ text8)) (number_of_error-error_of n)
          ∙ ap (λ (m : ℕ). big_bytes 4 m ++ (big_bytes 4 n ++ text8)) (sym (eqb-true (big_number 4 bytes) reply_magic magic))
          ∙ at0
      | false ↦ λ _. tt
    ] refl

-- THE HANDSHAKE

pub greeting_in-greeting_text : (flags : ServerFlags) → flags.0 < 2 ^ 16 → greeting_in (greeting_text flags) ≡ Ok flags
unfolding greeting_in greeting_text
greeting_in-greeting_text flags fits =
    let good : ℕ → Result ServerFlags NotNbd = λ n. Ok (record { 0 = n }) in
    ap good (big_number-reads_back 2 flags.0 [] fits)

same_option : (n l : ℕ) (h : OptionHead) → n ≡ number_of_option h.option → option_of (number_of_option h.option) ≡ h.option → l ≡ h.length
    → ◌≡◌ {A = OptionHead} (record { option = option_of n; length = l }) h
same_option n l h a named b = rw (a, named, b) refl

pub option_in-option_text : (h : OptionHead) → FitsOption h → option_in (option_text h) ≡ Ok h
unfolding option_in option_text
option_in-option_text h fits =
    let good : OptionHead → Result OptionHead NotNbd = λ x. Ok x in
    ap good (same_option _ _ h
    (big_number-reads_back 4 (number_of_option h.option) (big_bytes 4 h.length) fits.option)
    fits.named
    (big_number-reads_back 4 h.length [] fits.length))

same_option_reply : (n k l : ℕ) (h : OptionReply) → n ≡ number_of_option h.option → option_of (number_of_option h.option) ≡ h.option
    → k ≡ number_of_kind h.kind → kind_of (number_of_kind h.kind) ≡ h.kind → l ≡ h.length
    → ◌≡◌ {A = OptionReply} (record { option = option_of n; kind = kind_of k; length = l }) h
same_option_reply n k l h a named b kept c = rw (a, named, b, kept, c) refl

pub option_reply_in-option_reply_text : (h : OptionReply) → FitsOptionReply h → option_reply_in (option_reply_text h) ≡ Ok h
unfolding option_reply_in option_reply_text
option_reply_in-option_reply_text h fits =
    let good : OptionReply → Result OptionReply NotNbd = λ x. Ok x in
    let length_text : List ℕ = big_bytes 4 h.length in
    ap good (same_option_reply _ _ _ h
    (big_number-reads_back 4 (number_of_option h.option) (big_bytes 4 (number_of_kind h.kind) ++ length_text) fits.option)
    fits.named
    (big_number-reads_back 4 (number_of_kind h.kind) length_text fits.kind)
    fits.known
    (big_number-reads_back 4 h.length [] fits.length))

same_export : (n f : ℕ) (e : Export) → n ≡ e.size → f ≡ e.flags.0
    → ◌≡◌ {A = Export} (record { size = n; flags = record { 0 = f } }) e
same_export n f e a b = rw (a, b) refl

pub export_in-export_text : (e : Export) → FitsExport e → export_in (export_text e) ≡ e
unfolding export_in export_text
export_in-export_text e fits =
    same_export _ _ e (big_number-reads_back 8 e.size (big_bytes 2 e.flags.0) fits.size) (big_number-reads_back 2 e.flags.0 [] fits.flags)
