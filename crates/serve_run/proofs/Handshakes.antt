-- A handshake, option after option.
use Rattle.std.proofs.Common.{◌≡◌, ◌∙◌, ℕ, ◌+◌, ◌<◌, ◌≤◌, ltb, Bool, true, false, List, [], ◌∷◌, ◌++◌, length}
use Rattle.std.proofs.Common.{Option, None, Some, Result, Ok, refl, sym, ap, subst, inl, inr, append_assoc, append-nil, arith}
use Rattle.std.proofs.lemmas.Bool.{lt-ltb, le-ltb}
use Rattle.std.proofs.lemmas.List.{length-append}
use Rattle.std.specs.Io.KnownBytes.{Appends, Consumes, IsAtEnd}
use Rattle.std.proofs.KnownBytes.{Appends-trans, Consumes-trans}
use Rattle.byteorder.specs.Endian.{big_number}
use Rattle.nbd.specs.declared.NotNbd.{NotNbd}
use Rattle.nbd.specs.declared.handshake.OptionHead.{OptionHead}
use Rattle.nbd.specs.Handshake.{greeting_text}
use Rattle.serve_run.specs.declared.fault.ServeFault.{ServeFault}
use Rattle.serve_run.specs.declared.fault.ServeFault.TheVariants as fault
use Rattle.serve_run.specs.declared.handshake.Next.{Next}
use Rattle.serve_run.specs.declared.handshake.Next.TheVariants as next
use Rattle.serve_run.specs.Broken.{HandshakeBroken, IsNoOption, Unanswered}
use Rattle.serve_run.specs.Faults.{EndsBehind}
use Rattle.serve_run.specs.Handshake.{AreAnswered, Asked, EndsWith, IsAsked, OptionAnswered, ReadsHead, Shaken, Shaking, answers_text, asked_text, lacks_zeros}
use Rattle.serve_run.specs.Handshake.{may_take, next_behind, offered, options_text, told_text}

-- AN OPTION

-- an option was read and answered, and the handshake goes on in this way
pub record OptionTurn (size : ℕ) (lacks : Bool) (onward : Next) (left left_new : Option (List ℕ)) (Sent : List ℕ → Type 0) : Type 0 where
  pub asked : Asked
  pub is : IsAsked asked
  pub goes_on : next_behind asked ≡ onward
  pub read : Consumes left left_new (asked_text asked)
  pub sent : Sent (told_text size lacks asked)

-- its head, and then its data and what it is told
pub turned : (size : ℕ) (lacks : Bool) (head : OptionHead) (onward : Next) (l m n : Option (List ℕ)) (Sent : List ℕ → Type 0)
    → ReadsHead (Some head) l m → OptionAnswered size lacks head onward m n Sent → OptionTurn size lacks onward l n Sent
turned size lacks head onward l m n Sent first rest =
    let good : ℕ → Result OptionHead NotNbd = λ (k : ℕ). Ok (record { option = head.option; length = k }) in
    record {
      asked = record { head = first.0; option = head.option; brought = rest.brought };
      is = (first.2, first.3 ∙ ap good (sym rest.len));
      goes_on = sym rest.goes_on;
      read = Consumes-trans l m n first.0 rest.brought first.1 rest.read;
      sent = rest.sent;
    }

-- OPTIONS

options_text-then : (options : List Asked) (a : Asked) → options_text (options ++ (a ∷ [])) ≡ options_text options ++ asked_text a
options_text-then [] a = append-nil (asked_text a)
options_text-then (b ∷ others) a =
    ap (λ (t : List ℕ). asked_text b ++ t) (options_text-then others a) ∙ sym (append_assoc (asked_text b) (options_text others) (asked_text a))

pub answers_text-then : (size : ℕ) (lacks : Bool) (options : List Asked) (a : Asked)
    → answers_text size lacks (options ++ (a ∷ [])) ≡ answers_text size lacks options ++ told_text size lacks a
answers_text-then size lacks [] a = append-nil (told_text size lacks a)
answers_text-then size lacks (b ∷ others) a =
    ap (λ (t : List ℕ). told_text size lacks b ++ t) (answers_text-then size lacks others a)
    ∙ sym (append_assoc (told_text size lacks b) (answers_text size lacks others) (told_text size lacks a))

AreAnswered-then : (options : List Asked) (a : Asked) → AreAnswered options → IsAsked a → next_behind a ≡ next.Option
    → AreAnswered (options ++ (a ∷ []))
AreAnswered-then [] a are is on = (is, on, tt)
AreAnswered-then (b ∷ others) a are is on = (are.0, are.1, AreAnswered-then others a are.2 is on)

-- flags of at most 3 may be taken
pub at_most_three : (flags : List ℕ) (taken : ℕ) → taken ≡ big_number 4 flags → taken ≤ 3 → may_take flags ≡ true
at_most_three flags taken is few = ap (λ (n : ℕ). ltb n 4) (sym is) ∙ lt-ltb taken 4 (omega arith)

-- flags above 3 may not
pub above_three : (flags : List ℕ) (taken : ℕ) → taken ≡ big_number 4 flags → 3 < taken → may_take flags ≡ false
above_three flags taken is many = ap (λ (n : ℕ). ltb n 4) (sym is) ∙ le-ltb taken 4 (omega arith)

-- before the first option
pub shaking_begun : (size : ℕ) (lacks : Bool) (flags : List ℕ) (l m w x : Option (List ℕ)) → length flags ≡ 4 → may_take flags ≡ true
    → lacks_zeros flags ≡ lacks → Consumes l m flags → Appends w x (greeting_text offered) → Shaking size lacks 0 l m w x
shaking_begun size lacks flags l m w x len may zeros read sent = record {
  flags = flags;
  options = [];
  many = refl;
  len = len;
  may = may;
  zeros = zeros;
  answered = tt;
  read = subst (Consumes l m) (sym (append-nil flags)) read;
  sent = subst (Appends w x) (sym (append-nil (greeting_text offered))) sent;
}

-- what is read and written of one option more
pub more_read : (flags : List ℕ) (options : List Asked) (a : Asked) (l m n : Option (List ℕ)) → Consumes l m (flags ++ options_text options)
    → Consumes m n (asked_text a) → Consumes l n (flags ++ options_text (options ++ (a ∷ [])))
more_read flags options a l m n before read =
    subst (Consumes l n) (append_assoc flags (options_text options) (asked_text a)
    ∙ ap (λ (t : List ℕ). flags ++ t) (sym (options_text-then options a)))
    (Consumes-trans l m n (flags ++ options_text options) (asked_text a) before read)

more_sent : (size : ℕ) (lacks : Bool) (hello : List ℕ) (options : List Asked) (a : Asked) (w x y : Option (List ℕ))
    → Appends w x (hello ++ answers_text size lacks options) → Appends x y (told_text size lacks a)
    → Appends w y (hello ++ answers_text size lacks (options ++ (a ∷ [])))
more_sent size lacks hello options a w x y before sent =
    subst (Appends w y) (append_assoc hello (answers_text size lacks options) (told_text size lacks a)
    ∙ ap (λ (t : List ℕ). hello ++ t) (sym (answers_text-then size lacks options a)))
    (Appends-trans w x y (hello ++ answers_text size lacks options) (told_text size lacks a) before sent)

-- an option more
pub shaking_on : (size : ℕ) (lacks : Bool) (count : ℕ) (l m n w x y : Option (List ℕ)) → Shaking size lacks count l m w x
    → OptionTurn size lacks next.Option m n (Appends x y) → Shaking size lacks (count + 1) l n w y
shaking_on size lacks count l m n w x y s turn = record {
  flags = s.flags;
  options = s.options ++ (turn.asked ∷ []);
  many = omega (arith, length-append s.options (turn.asked ∷ []), s.many);
  len = s.len;
  may = s.may;
  zeros = s.zeros;
  answered = AreAnswered-then s.options turn.asked s.answered turn.is turn.goes_on;
  read = more_read s.flags s.options turn.asked l m n s.read turn.read;
  sent = more_sent size lacks (greeting_text offered) s.options turn.asked w x y s.sent turn.sent;
}

-- THE END

-- by an option
shaken_by : (size : ℕ) (lacks begins : Bool) (count : ℕ) (onward : Next) (l m n w x y : Option (List ℕ)) → Shaking size lacks count l m w x
    → (turn : OptionTurn size lacks onward m n (Appends x y)) → EndsWith begins (turn.asked ∷ []) n → Shaken size begins l n w y
shaken_by size lacks begins count onward l m n w x y s turn ends = record {
  flags = s.flags;
  options = s.options;
  last = turn.asked ∷ [];
  taken = inl (s.len, s.may);
  answered = s.answered;
  ends = ends;
  read = more_read s.flags s.options turn.asked l m n s.read turn.read;
  sent = subst (λ (b : Bool). Appends w y (greeting_text offered ++ answers_text size b (s.options ++ (turn.asked ∷ [])))) (sym s.zeros)
      (more_sent size lacks (greeting_text offered) s.options turn.asked w x y s.sent turn.sent);
}

pub shaken_begins : (size : ℕ) (lacks : Bool) (count : ℕ) (l m n w x y : Option (List ℕ)) → Shaking size lacks count l m w x
    → OptionTurn size lacks next.Transmission m n (Appends x y) → Shaken size true l n w y
shaken_begins size lacks count l m n w x y s turn =
    shaken_by size lacks true count next.Transmission l m n w x y s turn (turn.asked, refl, turn.is, turn.goes_on)

pub shaken_ends : (size : ℕ) (lacks : Bool) (count : ℕ) (l m n w x y : Option (List ℕ)) → Shaking size lacks count l m w x
    → OptionTurn size lacks next.End m n (Appends x y) → Shaken size false l n w y
shaken_ends size lacks count l m n w x y s turn =
    shaken_by size lacks false count next.End l m n w x y s turn (inr (turn.asked, refl, turn.is, turn.goes_on))

-- before an option
pub shaken_left : (size : ℕ) (lacks : Bool) (count : ℕ) (l m n w x : Option (List ℕ)) → Shaking size lacks count l m w x → ReadsHead None m n
    → Shaken size false l n w x
shaken_left size lacks count l m n w x s none = record {
  flags = s.flags;
  options = s.options;
  last = [];
  taken = inl (s.len, s.may);
  answered = s.answered;
  ends = inl (refl, none.1);
  read = subst (λ (options : List Asked). Consumes l n (s.flags ++ options_text options)) (sym (append-nil s.options))
      (subst (Consumes l n) (append-nil (s.flags ++ options_text s.options))
      (Consumes-trans l m n (s.flags ++ options_text s.options) [] s.read none.0));
  sent = subst (λ (options : List Asked). Appends w x (greeting_text offered ++ answers_text size (lacks_zeros s.flags) options))
      (sym (append-nil s.options))
      (subst (λ (b : Bool). Appends w x (greeting_text offered ++ answers_text size b s.options)) (sym s.zeros) s.sent);
}

-- before any flags
pub shaken_none : (size : ℕ) (l m w x : Option (List ℕ)) → Consumes l m [] → IsAtEnd m → Appends w x (greeting_text offered)
    → Shaken size false l m w x
shaken_none size l m w x read end sent = record {
  flags = [];
  options = [];
  last = [];
  taken = inr (refl, refl);
  answered = tt;
  ends = inl (refl, end);
  read = read;
  sent = subst (Appends w x) (sym (append-nil (greeting_text offered))) sent;
}

-- BY A FAULT

-- no option was read
pub broken_headless : (reason : ServeFault) (can_read now_read can_write : Bool) (size : ℕ) (lacks : Bool) (count : ℕ)
    (l m n w x : Option (List ℕ)) → now_read ≡ can_read → Shaking size lacks count l m w x
    → EndsBehind fault.Handshake IsNoOption 16 reason now_read count m n → HandshakeBroken reason can_read can_write size l n w x
broken_headless reason can_read now_read can_write size lacks count l m n w x same shaking ends = inr (inr (record {
  lacks = lacks;
  count = count;
  left_told = m;
  written_told = x;
  shaking = shaking;
  ends = inl (refl, subst (λ (b : Bool). EndsBehind fault.Handshake IsNoOption 16 reason b count m n) same ends);
}))

-- an option was read and not answered
pub broken_option : (reason : ServeFault) (can_read now_read can_write now_write : Bool) (size : ℕ) (lacks : Bool) (count : ℕ) (head : OptionHead)
    (l m k n w x y : Option (List ℕ)) → now_read ≡ can_read → now_write ≡ can_write → Shaking size lacks count l m w x
    → ReadsHead (Some head) m k → Unanswered reason now_read now_write size lacks head k n x y → HandshakeBroken reason can_read can_write size l n w y
broken_option reason can_read now_read can_write now_write size lacks count head l m k n w x y same_read same_write shaking read ends =
    inr (inr (record {
      lacks = lacks;
      count = count;
      left_told = m;
      written_told = x;
      shaking = shaking;
      ends = inr (record {
        head = head;
        left_read = k;
        read = read;
        ends = subst (λ (b : Bool). Unanswered reason b can_write size lacks head k n x y) same_read
            (subst (λ (b : Bool). Unanswered reason now_read b size lacks head k n x y) same_write ends);
      });
    }))
