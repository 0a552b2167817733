-- The steps that a log keeps, one by one; and limits that are wider.
use Rattle.std.proofs.Common.{◌≡◌, ℕ, zero, suc, ◌+◌, ◌<◌, ◌≤◌, ◌==◌, Bool, true, false, List, [], ◌∷◌, ◌++◌, length, get_or, take, map, refl, sym, ap, subst, ◌∙◌, arith, add-one, append_assoc, eq-eqb, Option}
use Rattle.std.proofs.Math.Dec.{eqb-suc-zero}
use Rattle.std.specs.Prelude.{if◌then◌else◌, slice_index}
use Rattle.std.specs.List.{flat_map, AllByRecursion}
use Rattle.std.proofs.lemmas.List.{append-nil}
use Rattle.std.proofs.lemmas.List.Concat.{flat_map-cons}
use Rattle.shared_machine.specs.declared.Step.{Step}
use Rattle.shared_machine.specs.declared.Step.TheVariants as steps
use Rattle.log_text.specs.declared.SavedReply.{SavedReply}
use Rattle.log_text.specs.Kept.{kept}
use Rattle.log_text.specs.declared.Version.{Version}
use Rattle.log_text.specs.declared.Version.TheVariants.{Second}
use Rattle.scsi_cmd.specs.declared.Task.{Task}
use Rattle.scsi_cmd.specs.declared.Task.TheVariants.{Abort, Reset, Query}
use Rattle.log_text.specs.Text.{ReplyFits, StepFits, TaskFits, field, listed, step_text}
use Rattle.log_text.specs.Writing.{Wrote}
use Rattle.log_text.proofs.Wrote.{wrote_then}

-- WIDER LIMITS

task_wider : (version : Version) (task : Task) → TaskFits version task → TaskFits Second task
task_wider version (Abort tag) fits = fits
task_wider version Reset fits = fits
task_wider version (Query tag) fits = (refl, fits.1)

step_wider : (version : Version) (clients most : ℕ) (step : Step) → clients ≤ most → StepFits version clients step → StepFits Second most step
step_wider version clients most (steps.Submit client tag ticket command) few fits = (omega (arith, fits.0), fits.1, fits.2, fits.3, fits.4)
step_wider version clients most (steps.Task client ticket task) few fits = (omega (arith, fits.0), fits.1, task_wider version task fits.2)
step_wider version clients most steps.CommandPipe few fits = fits
step_wider version clients most (steps.Data tag) few fits = fits
step_wider version clients most (steps.Status tag) few fits = fits
step_wider version clients most steps.Engine few fits = fits
step_wider version clients most steps.Event few fits = fits
step_wider version clients most (steps.Retire pipe tag) few fits = fits
step_wider version clients most (steps.Take client) few fits = omega (arith, fits)

pub steps_wider : (version : Version) (clients most : ℕ) (list : List Step) → clients ≤ most → AllByRecursion (StepFits version clients) list
    → AllByRecursion (StepFits Second most) list
steps_wider version clients most [] few fits = tt
steps_wider version clients most (step ∷ rest) few fits = (step_wider version clients most step few fits.0, steps_wider version clients most rest few fits.1)

pub replies_wider : (clients most : ℕ) (list : List SavedReply) → clients ≤ most → AllByRecursion (ReplyFits clients) list → AllByRecursion (ReplyFits most) list
replies_wider clients most [] few fits = tt
replies_wider clients most (saved ∷ rest) few fits =
    let it : ReplyFits clients saved = fits.0 in
    (record { client = omega (arith, it.client); tag = it.tag; ticket = it.ticket; body = it.body }, replies_wider clients most rest few fits.1)

-- ONE STEP MORE

not_zero : (number : ℕ) → 1 ≤ number → (number == 0) ≡ false
not_zero zero some = absurd (omega arith)
not_zero (suc number) some = eqb-suc-zero number

rest_holds : (holds : Step → Type 0) (b : Bool) (first : Step) (rest : List Step) → AllByRecursion holds (if b then first ∷ rest else rest) → AllByRecursion holds rest
rest_holds holds true first rest all = all.1
rest_holds holds false first rest all = all

abbrev pub if_kept : Step → ℕ → List Step
if_kept step number = if number == 0 then step ∷ [] else []

longer : (b : Bool) (step : Step) (front back : List Step) → (if b then step ∷ (front ++ back) else front ++ back) ≡ (if b then step ∷ front else front) ++ back
longer true step front back = refl
longer false step front back = refl

alone : (b : Bool) (step : Step) → (if b then step ∷ [] else []) ≡ [] ++ (if b then step ∷ [] else [])
alone true step = refl
alone false step = refl

kept-suc : (at : ℕ) (list : List Step) (refusals : List ℕ) (step : Step) → at < length list → at < length refusals → get_or list at step ≡ step
    → kept (take (suc at) list) (take (suc at) refusals) ≡ kept (take at list) (take at refusals) ++ if_kept step (slice_index refusals at)
kept-suc at [] refusals step a b e = absurd (omega arith)
kept-suc at (first ∷ list) [] step a b e = absurd (omega arith)
kept-suc zero (first ∷ list) (number ∷ refusals) step a b e = ap (λ (one : Step). if_kept one number) e
kept-suc (suc at) (first ∷ list) (number ∷ refusals) step a b e =
    ap (λ (rest : List Step). if number == 0 then first ∷ rest else rest) (kept-suc at list refusals step (omega arith) (omega arith) e)
    ∙ longer (number == 0) first (kept (take at list) (take at refusals)) (if_kept step (slice_index refusals at))

pub kept_more : (at : ℕ) (list : List Step) (refusals : List ℕ) (step : Step) → at < length list → at < length refusals → get_or list at step ≡ step
    → kept (take (at + 1) list) (take (at + 1) refusals) ≡ kept (take at list) (take at refusals) ++ if_kept step (slice_index refusals at)
kept_more at list refusals step a b e =
    subst (λ (n : ℕ). kept (take n list) (take n refusals) ≡ kept (take at list) (take at refusals) ++ if_kept step (slice_index refusals at))
    (sym (add-one at)) (kept-suc at list refusals step a b e)

kept_either : (b : Bool) (step : Step) (front : List Step) → b ≡ true → front ++ (if b then step ∷ [] else []) ≡ front ++ step ∷ []
kept_either true step front e = refl
kept_either false step front e = absurd cc

kept_neither : (b : Bool) (step : Step) (front : List Step) → b ≡ false → front ++ (if b then step ∷ [] else []) ≡ front
kept_neither true step front e = absurd cc
kept_neither false step front e = append-nil front

-- a step that wasn't refused is one more
pub kept_here : (at : ℕ) (list : List Step) (refusals : List ℕ) (step : Step) → at < length list → at < length refusals → get_or list at step ≡ step
    → slice_index refusals at ≡ 0 → kept (take (at + 1) list) (take (at + 1) refusals) ≡ kept (take at list) (take at refusals) ++ step ∷ []
kept_here at list refusals step a b e none =
    kept_more at list refusals step a b e ∙ kept_either (slice_index refusals at == 0) step (kept (take at list) (take at refusals)) (eq-eqb _ _ none)

-- and one that was isn't
pub kept_not : (at : ℕ) (list : List Step) (refusals : List ℕ) (step : Step) → at < length list → at < length refusals → get_or list at step ≡ step
    → 1 ≤ slice_index refusals at → kept (take (at + 1) list) (take (at + 1) refusals) ≡ kept (take at list) (take at refusals)
kept_not at list refusals step a b e some =
    kept_more at list refusals step a b e
    ∙ kept_neither (slice_index refusals at == 0) step (kept (take at list) (take at refusals)) (not_zero (slice_index refusals at) some)

-- what holds of each step that is kept holds of this one
pub kept_holds : (holds : Step → Type 0) (at : ℕ) (list : List Step) (refusals : List ℕ) (step : Step) → at < length list → at < length refusals
    → get_or list at step ≡ step → slice_index refusals at ≡ 0 → AllByRecursion holds (kept list refusals) → holds step
kept_holds holds at [] refusals step a b e none all = absurd (omega arith)
kept_holds holds at (first ∷ list) [] step a b e none all = absurd (omega arith)
kept_holds holds zero (first ∷ list) (zero ∷ refusals) step a b e none all = subst holds e all.0
kept_holds holds zero (first ∷ list) (suc number ∷ refusals) step a b e none all = absurd (omega (arith, none))
kept_holds holds (suc at) (first ∷ list) (number ∷ refusals) step a b e none all =
    kept_holds holds at list refusals step (omega arith) (omega arith) e none (rest_holds holds (number == 0) first (kept list refusals) all)

-- WHAT IS WRITTEN OF THEM

flat_map-push : {A : Type 0} (text : A → List ℕ) (items : List A) (item : A) → flat_map text (items ++ item ∷ []) ≡ flat_map text items ++ text item
flat_map-push text [] item = flat_map-cons text item [] ∙ append-nil (text item)
flat_map-push text (first ∷ items) item =
    flat_map-cons text first (items ++ item ∷ []) ∙ ap (λ (rest : List ℕ). text first ++ rest) (flat_map-push text items item)
    ∙ sym (append_assoc (text first) (flat_map text items) (text item))
    ∙ ap (λ (front : List ℕ). front ++ text item) (sym (flat_map-cons text first items))

pub wrote_one_more : {W : Type 0} {contents : W → Option (List ℕ)} {old middle new : W} (front : List ℕ) (items more : List Step) (step : Step)
    → more ≡ items ++ step ∷ [] → Wrote contents old middle (front ++ flat_map step_text items) → Wrote contents middle new (step_text step)
    → Wrote contents old new (front ++ flat_map step_text more)
wrote_one_more {contents = contents} {old = old} {middle = middle} {new = new} front items more step e so_far one =
    subst (λ (text : List ℕ). Wrote contents old new text)
    (append_assoc front (flat_map step_text items) (step_text step)
    ∙ ap (λ (text : List ℕ). front ++ text) (sym (flat_map-push step_text items step) ∙ ap (flat_map step_text) (sym e)))
    (wrote_then so_far one)

-- LISTS OF WHAT IS MADE OF OTHERS

pub flat_map-map : {A B : Type 0} (text : B → List ℕ) (made : A → B) (items : List A) → flat_map text (map made items) ≡ flat_map (λ item. text (made item)) items
flat_map-map text made [] = refl
flat_map-map text made (item ∷ items) =
    flat_map-cons text (made item) (map made items) ∙ ap (λ (rest : List ℕ). text (made item) ++ rest) (flat_map-map text made items)
    ∙ sym (flat_map-cons (λ one. text (made one)) item items)

pub all-map : {A B : Type 0} (holds : B → Type 0) (made : A → B) (items : List A) → AllByRecursion holds (map made items) → AllByRecursion (λ item. holds (made item)) items
all-map holds made [] all = tt
all-map holds made (item ∷ items) all = (all.0, all-map holds made items all.1)

pub length-map : {A B : Type 0} (made : A → B) (items : List A) → length (map made items) ≡ length items
length-map made [] = refl
length-map made (item ∷ items) = ap suc (length-map made items)

pub listed-map : {A B : Type 0} (text : B → List ℕ) (made : A → B) (items : List A) → listed (λ item. text (made item)) items ≡ listed text (map made items)
listed-map text made items =
    ap (λ (n : ℕ). field 4 n ++ flat_map (λ item. text (made item)) items) (sym (length-map made items))
    ∙ ap (λ (all : List ℕ). field 4 (length (map made items)) ++ all) (sym (flat_map-map text made items))
