-- Steps, taken and read again.
use Rattle.std.proofs.Common.{◌≡◌, ℕ, zero, suc, ◌-◌, ◌^◌, ◌<◌, ◌≤◌, ◌==◌, Bool, true, false, cond, List, [], ◌++◌, Ok, refl, sym, ap, subst, ◌∙◌, append_assoc, arith, inl, inr}
use Rattle.std.specs.Prelude.{◌⊎◌}
use Rattle.std.specs.Prelude.{◌&&◌}
use Rattle.std.proofs.lemmas.Bool.{and_parts, eqb-true}
use Rattle.uas_profile.specs.declared.Pipe.{Pipe}
use Rattle.uas_profile.specs.declared.Pipe.TheVariants as pipes
use Rattle.scsi_cmd.specs.declared.Op.{Op}
use Rattle.scsi_cmd.specs.declared.Task.{Task}
use Rattle.scsi_cmd.specs.declared.Task.TheVariants.{Abort, Reset, Query}
use Rattle.shared_machine.specs.declared.Step.{Step}
use Rattle.shared_machine.specs.declared.Step.TheVariants as steps
use Rattle.log_text.specs.declared.LogFault.TheVariants.{BadField}
use Rattle.log_text.specs.declared.Version.{Version}
use Rattle.log_text.specs.Text.{has_queries, BufferFits, OpFits, PipeFits, StepFits, TaskFits, buffer_text, field, op_text, pipe_number, step_body, step_kind, step_text, task_function, task_tag}
use Rattle.log_text.specs.Reading.{◌>>=◌, buffer_at, field_at, op_at, pipe_of, retire_at, step_at, step_of, submit_at, task_at, task_of}
use Rattle.byte_numbers.specs.Bytes.{AreBytes}
use Rattle.log_text.proofs.ReadResults.{bind_ok, not_ok, ok_is, result_of}
use Rattle.log_text.proofs.TakenFields.{Reads, Taken, Takes, Within, number_again, number_taken, reads_buffer, then_takes}
use Rattle.log_text.proofs.TakenOps.{reads_op}

-- NUMBERS THAT COME AGAIN AND AGAIN

pub client_within : (clients client : ℕ) → clients ≤ 31 → client < clients → Within 1 0 (clients - 1) client
client_within clients client few small = record { least = omega arith; most = omega (arith, small); wide = omega (arith, small, few) }

pub tag_within : (tag : ℕ) → tag < 2 ^ 16 → Within 2 0 0xffff tag
tag_within tag small = record { least = omega arith; most = omega (arith, small); wide = omega (arith, small) }

pub ticket_within : (ticket : ℕ) → ticket < 2 ^ 60 → Within 8 0 (2 ^ 60 - 1) ticket
ticket_within ticket small = record { least = omega arith; most = omega (arith, small); wide = omega (arith, small) }

pub byte_within : (least most number : ℕ) → least ≤ number → number ≤ most → most ≤ 255 → Within 1 least most number
byte_within least most number low high small = record { least = low; most = high; wide = omega (arith, high, small) }

-- A TASK MANAGEMENT

pub record TaskTaken (version : Version) (function : ℕ) (bytes : List ℕ) (x : Task × List ℕ) : Type 0 where
  pub function_is : task_function x.0 ≡ function
  pub taken : Taken (λ task. field 2 (task_tag task)) (TaskFits version) bytes x

chosen : {A : Type 0} (b : Bool) (x y z : A) → cond b x y ≡ z → ((b ≡ true) × (x ≡ z)) ⊎ ((b ≡ false) × (y ≡ z))
chosen true x y z e = inl (refl, e)
chosen false x y z e = inr (refl, e)

task_of_taken : (version : Version) (function : ℕ) (bytes : List ℕ) (x : Task × List ℕ) → AreBytes bytes → task_of version function bytes ≡ Ok x
    → TaskTaken version function bytes x
unfolding task_of
task_of_taken version function bytes x is e =
    elim (chosen (function == 0x01) _ _ _ e) [
      | inl abort ↦
          let a = bind_ok (field_at 2 0 0xffff bytes) (λ tag. Ok (Abort tag.0, tag.1)) x abort.1 in
          let tag = number_taken BadField 2 0 0xffff bytes a.0 is a.1 in
          let read : Task × List ℕ = (Abort a.0.0, a.0.1) in
          subst (λ (y : Task × List ℕ). TaskTaken version function bytes y) (ok_is read x a.2) (record {
            function_is = sym (eqb-true _ _ abort.0);
            taken = record { takes = tag.takes; fits = omega (arith, tag.fits.most) };
          })
      | inr other ↦ elim (chosen (function == 0x08) _ _ _ other.1) [
        | inl reset ↦
            let a = bind_ok (field_at 2 0 0 bytes) (λ tag. Ok (Reset, tag.1)) x reset.1 in
            let tag = number_taken BadField 2 0 0 bytes a.0 is a.1 in
            let none : a.0.0 ≡ 0 = omega (arith, tag.fits.most) in
            let read : Task × List ℕ = (Reset, a.0.1) in
            subst (λ (y : Task × List ℕ). TaskTaken version function bytes y) (ok_is read x a.2) (record {
              function_is = sym (eqb-true _ _ reset.0);
              taken = record { takes = subst (λ (n : ℕ). Takes bytes (field 2 n) a.0.1) none tag.takes; fits = tt };
            })
        | inr more ↦ elim (chosen ((function == 0x80) && has_queries version) _ _ _ more.1) [
          | inl query ↦
              let a = bind_ok (field_at 2 0 0xffff bytes) (λ tag. Ok (Query tag.0, tag.1)) x query.1 in
              let tag = number_taken BadField 2 0 0xffff bytes a.0 is a.1 in
              let both = and_parts (function == 0x80) (has_queries version) query.0 in
              let read : Task × List ℕ = (Query a.0.0, a.0.1) in
              subst (λ (y : Task × List ℕ). TaskTaken version function bytes y) (ok_is read x a.2) (record {
                function_is = sym (eqb-true _ _ both.0);
                taken = record { takes = tag.takes; fits = (both.1, omega (arith, tag.fits.most)) };
              })
          | inr unknown ↦ absurd (not_ok BadField x unknown.1)
        ]
      ]
    ]

task_of_again : (version : Version) (task : Task) (rest : List ℕ) → TaskFits version task
    → task_of version (task_function task) (field 2 (task_tag task) ++ rest) ≡ Ok (task, rest)
unfolding task_of
task_of_again version (Abort tag) rest fits = rw (number_again BadField 2 0 0xffff tag rest (tag_within tag fits)) refl
task_of_again version Reset rest fits =
    let within : Within 2 0 0 0 = record { least = omega arith; most = omega arith; wide = omega arith } in
    rw (number_again BadField 2 0 0 0 rest within) refl
task_of_again version (Query tag) rest fits = rw (fits.0, number_again BadField 2 0 0xffff tag rest (tag_within tag fits.1)) refl

function_within : (task : Task) → Within 1 0 0xff (task_function task)
function_within (Abort tag) = record { least = omega arith; most = omega arith; wide = omega arith }
function_within Reset = record { least = omega arith; most = omega arith; wide = omega arith }
function_within (Query tag) = record { least = omega arith; most = omega arith; wide = omega arith }

-- EACH KIND OF STEP

-- what stands behind the kind was taken
pub record StepTaken (version : Version) (clients kind : ℕ) (bytes : List ℕ) (x : Step × List ℕ) : Type 0 where
  pub kind_is : step_kind x.0 ≡ kind
  pub taken : Taken step_body (StepFits version clients) bytes x

submit_taken : (version : Version) (clients : ℕ) (bytes : List ℕ) (x : Step × List ℕ) → 1 ≤ clients → AreBytes bytes → submit_at clients bytes ≡ Ok x → StepTaken version clients 1 bytes x
unfolding submit_at
submit_taken version clients bytes x some is e =
    let a = bind_ok (field_at 1 0 (clients - 1) bytes) _ x e in
    let b = bind_ok (field_at 2 0 0xffff a.0.1) _ x a.2 in
    let c = bind_ok (field_at 8 0 (2 ^ 60 - 1) b.0.1) _ x b.2 in
    let d = bind_ok (op_at c.0.1) _ x c.2 in
    let f = bind_ok (buffer_at d.0.1) _ x d.2 in
    let client = number_taken BadField 1 0 (clients - 1) bytes a.0 is a.1 in
    let tag = number_taken BadField 2 0 0xffff a.0.1 b.0 client.takes.rest_bytes b.1 in
    let ticket = number_taken BadField 8 0 (2 ^ 60 - 1) b.0.1 c.0 tag.takes.rest_bytes c.1 in
    let op = reads_op.taken c.0.1 d.0 ticket.takes.rest_bytes d.1 in
    let buffer = reads_buffer.taken d.0.1 f.0 op.takes.rest_bytes f.1 in
    let made : Step × List ℕ = (steps.Submit a.0.0 b.0.0 c.0.0 (record { op = d.0.0; buffer = f.0.0 }), f.0.1) in
    subst (λ (y : Step × List ℕ). StepTaken version clients 1 bytes y) (ok_is made x f.2) (record {
      kind_is = refl;
      taken = record {
        takes = then_takes (then_takes (then_takes (then_takes client.takes tag.takes) ticket.takes) op.takes) buffer.takes;
        fits = (omega (arith, client.fits.most, some), omega (arith, tag.fits.most), omega (arith, ticket.fits.most), op.fits, buffer.fits);
      };
    })

submit_again : (clients client tag ticket : ℕ) (op : Op) (buffer rest : List ℕ) → clients ≤ 31 → client < clients → tag < 2 ^ 16 → ticket < 2 ^ 60 → OpFits op → BufferFits buffer
    → submit_at clients (step_body (steps.Submit client tag ticket (record { op = op; buffer = buffer })) ++ rest)
    ≡ Ok (steps.Submit client tag ticket (record { op = op; buffer = buffer }), rest)
unfolding submit_at
submit_again clients client tag ticket op buffer rest few c t k o b =
    let r4 : List ℕ = buffer_text buffer ++ rest in
    let r3 : List ℕ = op_text op ++ r4 in
    let r2 : List ℕ = field 8 ticket ++ r3 in
    let r1 : List ℕ = field 2 tag ++ r2 in
    let regrouped : step_body (steps.Submit client tag ticket (record { op = op; buffer = buffer })) ++ rest ≡ field 1 client ++ r1 = simp append_assoc refl in
    ap (submit_at clients) regrouped
    ∙ rw (
      number_again BadField 1 0 (clients - 1) client r1 (client_within clients client few c),
      number_again BadField 2 0 0xffff tag r2 (tag_within tag t),
      number_again BadField 8 0 (2 ^ 60 - 1) ticket r3 (ticket_within ticket k),
      reads_op.again op r4 o,
      reads_buffer.again buffer rest b,
    ) refl

task_taken : (version : Version) (clients : ℕ) (bytes : List ℕ) (x : Step × List ℕ) → 1 ≤ clients → AreBytes bytes → task_at version clients bytes ≡ Ok x → StepTaken version clients 2 bytes x
unfolding task_at
task_taken version clients bytes x some is e =
    let a = bind_ok (field_at 1 0 (clients - 1) bytes) _ x e in
    let b = bind_ok (field_at 8 0 (2 ^ 60 - 1) a.0.1) _ x a.2 in
    let c = bind_ok (field_at 1 0 0xff b.0.1) _ x b.2 in
    let d = bind_ok (task_of version c.0.0 c.0.1) _ x c.2 in
    let client = number_taken BadField 1 0 (clients - 1) bytes a.0 is a.1 in
    let ticket = number_taken BadField 8 0 (2 ^ 60 - 1) a.0.1 b.0 client.takes.rest_bytes b.1 in
    let function = number_taken BadField 1 0 0xff b.0.1 c.0 ticket.takes.rest_bytes c.1 in
    let task = task_of_taken version c.0.0 c.0.1 d.0 function.takes.rest_bytes d.1 in
    let named : Takes b.0.1 (field 1 (task_function d.0.0)) c.0.1 = subst (λ (n : ℕ). Takes b.0.1 (field 1 n) c.0.1) (sym task.function_is) function.takes in
    let made : Step × List ℕ = (steps.Task a.0.0 b.0.0 d.0.0, d.0.1) in
    subst (λ (y : Step × List ℕ). StepTaken version clients 2 bytes y) (ok_is made x d.2) (record {
      kind_is = refl;
      taken = record {
        takes = then_takes (then_takes client.takes ticket.takes) (then_takes named task.taken.takes);
        fits = (omega (arith, client.fits.most, some), omega (arith, ticket.fits.most), task.taken.fits);
      };
    })

task_again : (version : Version) (clients client ticket : ℕ) (task : Task) (rest : List ℕ) → clients ≤ 31 → client < clients → ticket < 2 ^ 60 → TaskFits version task
    → task_at version clients (step_body (steps.Task client ticket task) ++ rest) ≡ Ok (steps.Task client ticket task, rest)
unfolding task_at
task_again version clients client ticket task rest few c k t =
    let r3 : List ℕ = field 2 (task_tag task) ++ rest in
    let r2 : List ℕ = field 1 (task_function task) ++ r3 in
    let r1 : List ℕ = field 8 ticket ++ r2 in
    let regrouped : step_body (steps.Task client ticket task) ++ rest ≡ field 1 client ++ r1 = simp append_assoc refl in
    ap (task_at version clients) regrouped
    ∙ rw (
      number_again BadField 1 0 (clients - 1) client r1 (client_within clients client few c),
      number_again BadField 8 0 (2 ^ 60 - 1) ticket r2 (ticket_within ticket k),
      number_again BadField 1 0 0xff (task_function task) r3 (function_within task),
      task_of_again version task rest t,
    ) refl

pub record PipeMade (number : ℕ) : Type 0 where
  pub number_is : pipe_number (pipe_of number) ≡ number
  pub fits : PipeFits (pipe_of number)

pipe_made : (number : ℕ) → 2 ≤ number → number ≤ 4 → PipeMade number
pipe_made zero low high = absurd (omega arith)
pipe_made (suc zero) low high = absurd (omega arith)
pipe_made (suc (suc zero)) low high = record { number_is = refl; fits = tt }
pipe_made (suc (suc (suc zero))) low high = record { number_is = refl; fits = tt }
pipe_made (suc (suc (suc (suc zero)))) low high = record { number_is = refl; fits = tt }
pipe_made (suc (suc (suc (suc (suc number))))) low high = absurd (omega arith)

retire_taken : (version : Version) (clients : ℕ) (bytes : List ℕ) (x : Step × List ℕ) → AreBytes bytes → retire_at bytes ≡ Ok x → StepTaken version clients 8 bytes x
unfolding retire_at
retire_taken version clients bytes x is e =
    let a = bind_ok (field_at 1 2 4 bytes) _ x e in
    let b = bind_ok (field_at 2 0 0xffff a.0.1) _ x a.2 in
    let pipe = number_taken BadField 1 2 4 bytes a.0 is a.1 in
    let tag = number_taken BadField 2 0 0xffff a.0.1 b.0 pipe.takes.rest_bytes b.1 in
    let is-pipe = pipe_made a.0.0 pipe.fits.least pipe.fits.most in
    let made : Step × List ℕ = (steps.Retire (pipe_of a.0.0) b.0.0, b.0.1) in
    subst (λ (y : Step × List ℕ). StepTaken version clients 8 bytes y) (ok_is made x b.2) (record {
      kind_is = refl;
      taken = record {
        takes = then_takes (subst (λ (n : ℕ). Takes bytes (field 1 n) a.0.1) (sym is-pipe.number_is) pipe.takes) tag.takes;
        fits = (is-pipe.fits, omega (arith, tag.fits.most));
      };
    })

pipe_back : (pipe : Pipe) → PipeFits pipe → (pipe_of (pipe_number pipe) ≡ pipe) × Within 1 2 4 (pipe_number pipe)
pipe_back pipes.Command fits = absurd fits
pipe_back pipes.Status fits = (refl, record { least = omega arith; most = omega arith; wide = omega arith })
pipe_back pipes.DataIn fits = (refl, record { least = omega arith; most = omega arith; wide = omega arith })
pipe_back pipes.DataOut fits = (refl, record { least = omega arith; most = omega arith; wide = omega arith })

retire_again : (pipe : Pipe) (tag : ℕ) (rest : List ℕ) → PipeFits pipe → tag < 2 ^ 16
    → retire_at (step_body (steps.Retire pipe tag) ++ rest) ≡ Ok (steps.Retire pipe tag, rest)
unfolding retire_at
retire_again pipe tag rest p t =
    let back = pipe_back pipe p in
    ap retire_at (append_assoc (field 1 (pipe_number pipe)) (field 2 tag) rest)
    ∙ rw (number_again BadField 1 2 4 (pipe_number pipe) (field 2 tag ++ rest) back.1, number_again BadField 2 0 0xffff tag rest (tag_within tag t))
    (ap (λ (q : Pipe). Ok (steps.Retire q tag, rest)) back.0)

tagged_taken : (version : Version) (clients kind : ℕ) (made : ℕ → Step) → ((tag : ℕ) → step_kind (made tag) ≡ kind) → ((tag : ℕ) → step_body (made tag) ≡ field 2 tag)
    → ((tag : ℕ) → tag < 2 ^ 16 → StepFits version clients (made tag)) → (bytes : List ℕ) (x : Step × List ℕ) → AreBytes bytes
    → (field_at 2 0 0xffff bytes >>= λ tag. Ok (made tag.0, tag.1)) ≡ Ok x → StepTaken version clients kind bytes x
tagged_taken version clients kind made kind-is body fits bytes x is e =
    let a = bind_ok (field_at 2 0 0xffff bytes) (λ tag. Ok (made tag.0, tag.1)) x e in
    let tag = number_taken BadField 2 0 0xffff bytes a.0 is a.1 in
    let read : Step × List ℕ = (made a.0.0, a.0.1) in
    subst (λ (y : Step × List ℕ). StepTaken version clients kind bytes y) (ok_is read x a.2) (record {
      kind_is = kind-is a.0.0;
      taken = record {
        takes = subst (λ (text : List ℕ). Takes bytes text a.0.1) (sym (body a.0.0)) tag.takes;
        fits = fits a.0.0 (omega (arith, tag.fits.most));
      };
    })

bare_taken : (version : Version) (clients kind : ℕ) (step : Step) → step_kind step ≡ kind → step_body step ≡ [] → StepFits version clients step
    → (bytes : List ℕ) (x : Step × List ℕ) → AreBytes bytes → result_of (step, bytes) ≡ Ok x → StepTaken version clients kind bytes x
bare_taken version clients kind step kind-is body fits bytes x is e =
    let read : Step × List ℕ = (step, bytes) in
    subst (λ (y : Step × List ℕ). StepTaken version clients kind bytes y) (ok_is read x e) (record {
      kind_is = kind-is;
      taken = record {
        takes = subst (λ (text : List ℕ). Takes bytes text bytes) (sym body) (record { parts = refl; rest_bytes = is });
        fits = fits;
      };
    })

take_taken : (version : Version) (clients : ℕ) → 1 ≤ clients → (bytes : List ℕ) (x : Step × List ℕ) → AreBytes bytes
    → (field_at 1 0 (clients - 1) bytes >>= λ client. Ok (steps.Take client.0, client.1)) ≡ Ok x → StepTaken version clients 9 bytes x
take_taken version clients some bytes x is e =
    let a = bind_ok (field_at 1 0 (clients - 1) bytes) (λ client. Ok (steps.Take client.0, client.1)) x e in
    let client = number_taken BadField 1 0 (clients - 1) bytes a.0 is a.1 in
    let read : Step × List ℕ = (steps.Take a.0.0, a.0.1) in
    subst (λ (y : Step × List ℕ). StepTaken version clients 9 bytes y) (ok_is read x a.2) (record {
      kind_is = refl;
      taken = record { takes = client.takes; fits = omega (arith, client.fits.most, some) };
    })

from_one_to_nine : (P : ℕ → Type 0) → P 1 → P 2 → P 3 → P 4 → P 5 → P 6 → P 7 → P 8 → P 9 → (n : ℕ) → 1 ≤ n → n ≤ 9 → P n
from_one_to_nine P a b c d e f g h i zero low small = absurd (omega arith)
from_one_to_nine P a b c d e f g h i (suc zero) low small = a
from_one_to_nine P a b c d e f g h i (suc (suc zero)) low small = b
from_one_to_nine P a b c d e f g h i (suc (suc (suc zero))) low small = c
from_one_to_nine P a b c d e f g h i (suc (suc (suc (suc zero)))) low small = d
from_one_to_nine P a b c d e f g h i (suc (suc (suc (suc (suc zero))))) low small = e
from_one_to_nine P a b c d e f g h i (suc (suc (suc (suc (suc (suc zero)))))) low small = f
from_one_to_nine P a b c d e f g h i (suc (suc (suc (suc (suc (suc (suc zero))))))) low small = g
from_one_to_nine P a b c d e f g h i (suc (suc (suc (suc (suc (suc (suc (suc zero)))))))) low small = h
from_one_to_nine P a b c d e f g h i (suc (suc (suc (suc (suc (suc (suc (suc (suc zero))))))))) low small = i
from_one_to_nine P a b c d e f g h i (suc (suc (suc (suc (suc (suc (suc (suc (suc (suc n)))))))))) low small = absurd (omega arith)

abbrev KindTaken : Version → ℕ → ℕ → Type 0
KindTaken version clients kind = (bytes : List ℕ) (x : Step × List ℕ) → AreBytes bytes → step_of version clients kind bytes ≡ Ok x → StepTaken version clients kind bytes x

step_of_taken : (version : Version) (clients : ℕ) → 1 ≤ clients → (kind : ℕ) → 1 ≤ kind → kind ≤ 9 → KindTaken version clients kind
unfolding step_of
step_of_taken version clients some =
    from_one_to_nine (KindTaken version clients)
    (λ bytes x is e. submit_taken version clients bytes x some is e)
    (λ bytes x is e. task_taken version clients bytes x some is e)
    (bare_taken version clients 3 steps.CommandPipe refl refl tt)
    (tagged_taken version clients 4 steps.Data (λ tag. refl) (λ tag. refl) (λ tag small. small))
    (tagged_taken version clients 5 steps.Status (λ tag. refl) (λ tag. refl) (λ tag small. small))
    (bare_taken version clients 6 steps.Engine refl refl tt)
    (bare_taken version clients 7 steps.Event refl refl tt)
    (λ bytes x is e. retire_taken version clients bytes x is e)
    (take_taken version clients some)

step_of_again : (version : Version) (clients : ℕ) (step : Step) (rest : List ℕ) → clients ≤ 31 → StepFits version clients step → step_of version clients (step_kind step) (step_body step ++ rest) ≡ Ok (step, rest)
unfolding step_of
step_of_again version clients (steps.Submit client tag ticket command) rest few fits =
    submit_again clients client tag ticket command.op command.buffer rest few fits.0 fits.1 fits.2 fits.3 fits.4
step_of_again version clients (steps.Task client ticket task) rest few fits = task_again version clients client ticket task rest few fits.0 fits.1 fits.2
step_of_again version clients steps.CommandPipe rest few fits = refl
step_of_again version clients (steps.Data tag) rest few fits = rw (number_again BadField 2 0 0xffff tag rest (tag_within tag fits)) refl
step_of_again version clients (steps.Status tag) rest few fits = rw (number_again BadField 2 0 0xffff tag rest (tag_within tag fits)) refl
step_of_again version clients steps.Engine rest few fits = refl
step_of_again version clients steps.Event rest few fits = refl
step_of_again version clients (steps.Retire pipe tag) rest few fits = retire_again pipe tag rest fits.0 fits.1
step_of_again version clients (steps.Take client) rest few fits =
    rw (number_again BadField 1 0 (clients - 1) client rest (client_within clients client few fits)) refl

-- A STEP

step_taken : (version : Version) (clients : ℕ) → 1 ≤ clients → (bytes : List ℕ) (x : Step × List ℕ) → AreBytes bytes → step_at version clients bytes ≡ Ok x → Taken step_text (StepFits version clients) bytes x
unfolding step_at
step_taken version clients some bytes x is e =
    let a = bind_ok (field_at 1 1 9 bytes) _ x e in
    let kind = number_taken BadField 1 1 9 bytes a.0 is a.1 in
    let body = step_of_taken version clients some a.0.0 kind.fits.least kind.fits.most a.0.1 x kind.takes.rest_bytes a.2 in
    record {
      takes = then_takes (subst (λ (n : ℕ). Takes bytes (field 1 n) a.0.1) (sym body.kind_is) kind.takes) body.taken.takes;
      fits = body.taken.fits;
    }

kind_within : (step : Step) → Within 1 1 9 (step_kind step)
kind_within (steps.Submit client tag ticket command) = byte_within 1 9 1 (omega arith) (omega arith) (omega arith)
kind_within (steps.Task client ticket task) = byte_within 1 9 2 (omega arith) (omega arith) (omega arith)
kind_within steps.CommandPipe = byte_within 1 9 3 (omega arith) (omega arith) (omega arith)
kind_within (steps.Data tag) = byte_within 1 9 4 (omega arith) (omega arith) (omega arith)
kind_within (steps.Status tag) = byte_within 1 9 5 (omega arith) (omega arith) (omega arith)
kind_within steps.Engine = byte_within 1 9 6 (omega arith) (omega arith) (omega arith)
kind_within steps.Event = byte_within 1 9 7 (omega arith) (omega arith) (omega arith)
kind_within (steps.Retire pipe tag) = byte_within 1 9 8 (omega arith) (omega arith) (omega arith)
kind_within (steps.Take client) = byte_within 1 9 9 (omega arith) (omega arith) (omega arith)

step_again : (version : Version) (clients : ℕ) → clients ≤ 31 → (step : Step) (rest : List ℕ) → StepFits version clients step → step_at version clients (step_text step ++ rest) ≡ Ok (step, rest)
unfolding step_at
step_again version clients few step rest fits =
    ap (step_at version clients) (append_assoc (field 1 (step_kind step)) (step_body step) rest)
    ∙ rw (number_again BadField 1 1 9 (step_kind step) (step_body step ++ rest) (kind_within step)) (step_of_again version clients step rest few fits)

pub reads_step : (version : Version) (clients : ℕ) → 1 ≤ clients → clients ≤ 31 → Reads (step_at version clients) step_text (StepFits version clients)
reads_step version clients some few = record { taken = step_taken version clients some; again = step_again version clients few }
