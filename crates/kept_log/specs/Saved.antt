-- A log that was kept, as it is replayed.
use Rattle.std.specs.Prelude.{List, [], ◌∷◌, ◌++◌, option_to_list}
use Rattle.shared_machine.specs.declared.Step.{Step}
use Rattle.log_text.specs.declared.SavedReply.{SavedReply}
use Rattle.log_text.specs.Plain.{Plain}
use Rattle.kept_log.specs.declared.Entry.{Entry}
use Rattle.kept_log.specs.declared.Entry.TheVariants.{Acted, Refused}
use Rattle.kept_log.specs.Form.{Kept}

-- the steps that weren't refused, in order
abbrev pub acted_steps : List Entry → List Step
acted_steps [] = []
acted_steps (Acted step given ∷ rest) = step ∷ acted_steps rest
acted_steps (Refused step number ∷ rest) = acted_steps rest

-- the replies that they gave
abbrev pub given_replies : List Entry → List SavedReply
given_replies [] = []
given_replies (Acted step given ∷ rest) = option_to_list given ++ given_replies rest
given_replies (Refused step number ∷ rest) = given_replies rest

-- a log without its refused steps
abbrev pub plain_of : Kept → Plain
plain_of kept = record { tags = kept.tags; units = kept.units; steps = acted_steps kept.entries; replies = given_replies kept.entries }
