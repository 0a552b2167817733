-- What a step asks, and which places there are.
use Rattle.std.specs.Prelude.{ℕ, ◌^◌, ◌<◌, List, [], ◌∷◌}
use Rattle.uas_profile.specs.declared.Place.{Place}
use Rattle.shared_machine.specs.declared.Step.{Step}
use Rattle.shared_machine.specs.declared.Step.TheVariants.{Submit, Task}

-- the place is one of so many clients of so many tags
pub record IsPlace (tags clients : ℕ) (place : Place) : Type 0 where
  pub client : place.client < clients
  pub slot : place.slot < tags

-- every ticket that is handed in is below 2^60
abbrev pub HasTicket : Step → Type 0
HasTicket (Submit client tag ticket command) = ticket < 2 ^ 60
HasTicket (Task client ticket task) = ticket < 2 ^ 60
HasTicket _ = Unit {0}

abbrev pub AllTicketed : List Step → Type 0
AllTicketed [] = Unit {0}
AllTicketed (step ∷ steps) = HasTicket step × AllTicketed steps
