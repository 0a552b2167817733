-- What a client's reply lines print.
use Rattle.std.proofs.Common.{◌≡◌, ◌∙◌, ℕ, Bool, true, false, cond, List, [], ◌∷◌, ◌++◌, map, Some, None, option_to_list, refl, ap}
use Rattle.std.proofs.lemmas.Bool.{eqb-true}
use Rattle.std.specs.Prelude.{◌==◌}
use Rattle.scsi_cmd.specs.declared.Reply.{Reply}
use Rattle.scsi_cmd.specs.declared.Reply.TheVariants.{Status, Aborted, Task}
use Rattle.isolation.specs.Isolation.{renumbered}
use Rattle.uas_replay.specs.Printed.{reply_line}
use Rattle.uas_replay.specs.Headline.{Said, replied, refused_by_bus, refused_by_tags, idle, own_line, own_lines, reply_line_to, reply_lines_to}

-- a reply line shows no tag
line_shown : (tags client other : ℕ) (brings_in : Bool) (reply : Reply) → reply_line client brings_in reply ≡ reply_line client brings_in (renumbered tags other reply)
line_shown tags client other brings_in (Status tag ticket status sense buffer) = refl
line_shown tags client other brings_in (Aborted tag ticket buffer) = refl
line_shown tags client other brings_in (Task tag ticket code) = refl

abbrev printed : ℕ → Bool × Reply → List ℕ
printed client shown = reply_line client shown.0 shown.1

one_line : (tags client : ℕ) (said : Said) (rest : List (Bool × Reply))
    → option_to_list (reply_line_to client said) ++ map (printed client) rest ≡ map (printed client) (option_to_list (own_line tags client said) ++ rest)
one_line tags client (replied other brings_in reply) rest =
    elim (other == client) as (λ b. (other == client) ≡ b → option_to_list (cond b (Some (reply_line other brings_in reply)) None) ++ map (printed client) rest
    ≡ map (printed client) (option_to_list (cond b (Some (brings_in, renumbered tags client reply)) None) ++ rest)) [
      | true ↦ λ same. ap (λ (t : List ℕ). t ∷ map (printed client) rest)
          (ap (λ (c : ℕ). reply_line c brings_in reply) (eqb-true other client same) ∙ line_shown tags client client brings_in reply)
      | false ↦ λ apart. refl
    ] refl
one_line tags client (refused_by_bus other fault) rest = refl
one_line tags client (refused_by_tags other refused) rest = refl
one_line tags client idle rest = refl

pub reply_lines_printed : (tags client : ℕ) (said : List Said) → reply_lines_to client said ≡ map (printed client) (own_lines tags client said)
reply_lines_printed tags client [] = refl
reply_lines_printed tags client (one ∷ said) =
    ap (λ (t : List (List ℕ)). option_to_list (reply_line_to client one) ++ t) (reply_lines_printed tags client said)
    ∙ one_line tags client one (own_lines tags client said)
