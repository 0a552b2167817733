-- Steps, and one more.
use Rattle.std.proofs.Common.{◌≡◌, ◌∙◌, ◌⊎◌, ℕ, ◌+◌, Bool, true, false, List, [], ◌∷◌, ◌++◌, Option, inl, inr, refl, sym, ap, subst, append_assoc, append-nil, arith}
use Rattle.std.proofs.lemmas.List.{length-append}
use Rattle.std.specs.Prelude.{IsTrue}
use Rattle.std.specs.Io.KnownBytes.{Appends}
use Rattle.std.proofs.KnownBytes.{Appends-nil}
use Rattle.byte_io.specs.Streams.{Began}
use Rattle.uas_tasks.specs.declared.Request.{Request}
use Rattle.usb_tags.specs.declared.Answer.{Answer}
use Rattle.usb_tags.specs.declared.Next.{Next}
use Rattle.usb_tags.specs.declared.Next.TheVariants.{Quiet, Moved, Asks, Sends}
use Rattle.usb_tags.specs.declared.UsbTags.{UsbTags}
use Rattle.usb_tags.specs.Calls.{next_of}
use Rattle.usb_serve.specs.declared.fault.UsbFault.{UsbFault}
use Rattle.usb_serve.specs.declared.fault.UsbFault.TheVariants as fault
use Rattle.usb_serve.specs.Files.{Filed}
use Rattle.usb_serve.specs.Sending.{Gathers, answer_text}
use Rattle.usb_serve.proofs.Gathering.{began_gathered, began_on, gathers_then, sent_gathered}
use Rattle.usb_serve.specs.Steps.{Goes, IsAnswered, IsBroken, IsEndless, IsMisstated, IsQuiet, IsSent, Misstates, Step, StepBy, Stepped, Steps, StepsFail, Stops, World, texts, world}

-- BY WHAT THE DISK DOES NEXT

next_is : (old new : UsbTags) (r s : Next) → ◌≡◌ {A = UsbTags × Next} (new, r) (next_of old) → r ≡ s → ◌≡◌ {A = UsbTags × Next} (new, s) (next_of old)
next_is old new r s e is = ap (λ (n : Next). (new, n)) (sym is) ∙ e

pub step_moved : (old new : UsbTags) (r : Next) (files : List Filed) → ◌≡◌ {A = UsbTags × Next} (new, r) (next_of old) → r ≡ Moved
    → Step (world old files) [] (world new files)
step_moved old new r files e is =
    subst (λ (p : UsbTags × Next). StepBy p files [] (world new files)) (next_is old new r Moved e is) (refl, refl)

pub step_sends : (old new : UsbTags) (r : Next) (files : List Filed) (answer : Answer) → ◌≡◌ {A = UsbTags × Next} (new, r) (next_of old)
    → r ≡ Sends answer → Step (world old files) (answer_text new answer) (world new files)
step_sends old new r files answer e is =
    subst (λ (p : UsbTags × Next). StepBy p files (answer_text new answer) (world new files)) (next_is old new r (Sends answer) e is) (refl, refl)

pub step_asks : (old new last : UsbTags) (r : Next) (files files_new : List Filed) (number : ℕ) (request : Request)
    → ◌≡◌ {A = UsbTags × Next} (new, r) (next_of old) → r ≡ Asks number request → IsAnswered number request (world new files) (world last files_new)
    → Step (world old files) [] (world last files_new)
step_asks old new last r files files_new number request e is answers =
    subst (λ (p : UsbTags × Next). StepBy p files [] (world last files_new)) (next_is old new r (Asks number request) e is) (refl, answers)

pub quiet : (old new : UsbTags) (r : Next) (files : List Filed) → ◌≡◌ {A = UsbTags × Next} (new, r) (next_of old) → r ≡ Quiet
    → IsQuiet (world old files) (world new files)
quiet old new r files e is = (sym (next_is old new r Quiet e is), refl)

-- ALL STEPS

Steps-then : (trace : List (List ℕ × World)) (old middle new : World) (text : List ℕ) → Steps old trace middle → Step middle text new
    → Steps old (trace ++ ((text, new) ∷ [])) new
unfolding Steps
Steps-then [] old middle new text before step = (subst (λ (w : World). Step w text new) before step, refl)
Steps-then (first ∷ others) old middle new text before step = (before.0, Steps-then others first.1 middle new text before.1 step)

texts-then : (trace : List (List ℕ × World)) (new : World) (text : List ℕ) → texts (trace ++ ((text, new) ∷ [])) ≡ texts trace ++ text
texts-then [] new text = append-nil text
texts-then (first ∷ others) new text =
    ap (λ (t : List ℕ). first.0 ++ t) (texts-then others new text) ∙ sym (append_assoc first.0 (texts others) text)

pub stepped_none : (old : World) → Stepped 0 old [] old
unfolding Steps
stepped_none old = record { trace = []; many = refl; steps = refl; whole = refl }

pub stepped_then : (count : ℕ) (old middle new : World) (front last : List ℕ) → Stepped count old front middle → Step middle last new
    → Stepped (count + 1) old (front ++ last) new
stepped_then count old middle new front last before step = record {
  trace = before.trace ++ ((last, new) ∷ []);
  many = omega (arith, length-append before.trace ((last, new) ∷ []), before.many);
  steps = Steps-then before.trace old middle new last before.steps step;
  whole = ap (λ (t : List ℕ). t ++ last) before.whole ∙ sym (texts-then before.trace new last);
}

-- A PACKET

pub gathers_none : (gathered : List ℕ) (w : Option (List ℕ)) → gathered ≡ [] → Gathers [] gathered w w []
gathers_none gathered w none = record { sent = []; wrote = Appends-nil w; whole = sym none }

-- a step more
pub gathers_more : (m n : List ℕ) (u v w : Option (List ℕ)) (text more : List ℕ) → Gathers [] m u v text → Gathers m n v w more
    → Gathers [] n u w (text ++ more)
gathers_more m n u v w text more first second = gathers_then [] m n u v w text more first second

-- the steps that were made, and what is sent of them
abbrev pub Made : ℕ → (old new : World) → List ℕ → (written written_new : Option (List ℕ)) → Type 0
Made count old new gathered w v = (text : List ℕ) × Stepped count old text new × Gathers [] gathered w v text

pub made_more : (count : ℕ) (old middle new : World) (m n : List ℕ) (u v w : Option (List ℕ)) → Made count old middle m u v
    → Goes true middle new m n v w → Made (count + 1) old new n u w
made_more count old middle new m n u v w made goes = (
  made.0 ++ goes.0,
  stepped_then count old middle new made.0 goes.0 made.1 goes.1,
  gathers_more m n u v w made.0 goes.0 made.2 goes.2,
)

-- a step was made, and what is sent of it wasn't written whole
pub made_stops : (count : ℕ) (old middle new : World) (m : List ℕ) (u v w : Option (List ℕ)) → Made count old middle m u v
    → Stops middle new m v w → IsBroken old new u w
made_stops count old middle new m u v w made stops = record {
  count = count + 1;
  text = made.0 ++ stops.0;
  last = new;
  steps = stepped_then count old middle new made.0 stops.0 made.1 stops.1;
  ends = inl refl;
  began = began_on m u v w made.0 stops.0 made.2 stops.2;
}

-- nothing is left to do, and all was written
pub made_sent : (count : ℕ) (old middle new : World) (m n : List ℕ) (u v x w : Option (List ℕ)) → Made count old middle m u v
    → Goes false middle new m n v x → Appends x w n → IsSent old new u w
made_sent count old middle new m n u v x w made goes sent = (
  made.0,
  record { count = count; last = middle; steps = made.1; quiet = goes.0 },
  sent_gathered [] m u v w made.0 made.2 (subst (λ (y : Option (List ℕ)). Appends y w m) goes.2 (subst (Appends x w) goes.1 sent)),
)

-- or not all
pub made_began : (count : ℕ) (old middle new : World) (m n : List ℕ) (u v x w : Option (List ℕ)) → Made count old middle m u v
    → Goes false middle new m n v x → Began x w n → IsBroken old new u w
made_began count old middle new m n u v x w made goes sent = record {
  count = count;
  text = made.0;
  last = middle;
  steps = made.1;
  ends = inr goes.0;
  began = began_gathered [] m u v w made.0 made.2 (subst (λ (y : Option (List ℕ)). Began y w m) goes.2 (subst (Began x w) goes.1 sent));
}

-- too many steps
pub made_most : (count : ℕ) (old new : World) (m : List ℕ) (u v : Option (List ℕ)) → Made count old new m u v → IsBroken old new u v
made_most count old new m u v made = record {
  count = count;
  text = made.0;
  last = new;
  steps = made.1;
  ends = inl refl;
  began = record { part = made.2.sent; rest = m; front = sym made.2.whole; wrote = made.2.wrote };
}

-- WHY THEY ENDED

pub made_fails : (reason : UsbFault) (now can_write : Bool) (count : ℕ) (old middle new : World) (m : List ℕ) (u v : Option (List ℕ))
    → now ≡ can_write → Made count old middle m u v → ((reason ≡ fault.Stream) × IsTrue now) ⊎ ((reason ≡ fault.Answer) × Misstates middle new)
    → StepsFail reason can_write old new
made_fails reason now can_write count old middle new m u v same made (inl stream) =
    inl (stream.0, subst (λ (b : Bool). IsTrue b) same stream.1)
made_fails reason now can_write count old middle new m u v same made (inr answer) =
    inr (inl (answer.0, record { count = count; text = made.0; last = middle; steps = made.1; misstates = answer.1 }))

pub made_endless : (count : ℕ) (old new : World) (m : List ℕ) (u v : Option (List ℕ)) → count ≡ 4294967295 → Made count old new m u v → IsEndless old new
made_endless count old new m u v most made = (made.0, subst (λ (n : ℕ). Stepped n old made.0 new) most made.1)

pub fails_sending : (reason : UsbFault) (now can_write : Bool) (old new : World) → now ≡ can_write → (reason ≡ fault.Stream) × IsTrue now
    → StepsFail reason can_write old new
fails_sending reason now can_write old new same stream = inl (stream.0, subst (λ (b : Bool). IsTrue b) same stream.1)
