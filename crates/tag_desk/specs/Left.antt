-- What a desk has on it when it is closed.
use Rattle.std.specs.Prelude.{◌≡◌, ◌≢◌, ◌⊎◌, All, ℕ, ◌+◌, ◌*◌, ◌%◌, ◌<◌, ◌≤◌, ◌==◌, List, [], ◌∷◌, ◌++◌, Option, Some, None, length, slice_get, slice_index_or}
use Rattle.std.specs.Prelude.{if◌then◌else◌, vec_len, vec_capacity}
use Rattle.std.proofs.Common.{zero, suc}
use Rattle.tag_desk.specs.declared.Slip.{Slip}
use Rattle.tag_desk.specs.declared.rule.ClientView.{ClientView}
use Rattle.tag_desk.specs.declared.rule.ClientView.TheVariants.{Waiting, Free, Open}
use Rattle.tag_desk.specs.declared.rule.WorkView.{WorkView}
use Rattle.tag_desk.specs.declared.rule.WorkView.TheVariants.{Idle, Claimed, Finished}
use Rattle.tag_desk.specs.declared.remains.TagSlip.{TagSlip}
use Rattle.tag_desk.specs.declared.remains.TagTicket.{TagTicket}
use Rattle.tag_desk.specs.declared.remains.Left.{Left}
use Rattle.tag_desk.specs.declared.remains.Lists.{Lists}
use Rattle.tag_desk.specs.declared.remains.Standing.{Standing}
use Rattle.tag_desk.specs.declared.remains.Standing.TheVariants.{Nothing, Posted, Done, Held}
use Rattle.tag_desk.specs.Seats.{MadeDesk, ClientLine, WorkLine, Customer, Server, IsClientOf, IsPumpOf}
use Rattle.uas_profile.specs.Tags.{client_of, slot_of}

-- a ticket that the client has open: the pump's slip stands where the pump finished that very ticket, and else the client's
abbrev pub unclaimed : ℕ → Slip → WorkView → Standing
unclaimed n x (Idle missed) = Posted x
unclaimed n x (Claimed m) = Held n
unclaimed n x (Finished m y missed) = if m == n then Done y else Posted x

-- what stands at a tag, by what its client knows of it and the pump's line, which is none where it is out with a claim
abbrev pub standing : ClientView → Option WorkLine → Standing
standing Waiting line = Nothing
standing (Free next) line = Nothing
standing (Open n x looks) None = Held n
standing (Open n x looks) (Some line) = unclaimed n x line.view

abbrev pub view_or : Option ClientLine → ClientView
view_or None = Waiting
view_or (Some line) = line.view

abbrev pub line_view : List ClientLine → ℕ → ClientView
line_view lines k = view_or (slice_get lines k)

-- the first of these that has the number n; the last argument where none has it
abbrev pub numbered : {A : Type 0} → (A → ℕ) → List A → ℕ → A → A
numbered number [] n none = none
numbered number (x ∷ xs) n none = if number x == n then x else numbered number xs n none

-- one of these has the number n
abbrev pub HasNumber : {A : Type 0} → (A → ℕ) → List A → ℕ → Type 0
HasNumber number [] n = ⊥
HasNumber number (x ∷ xs) n = (number x ≡ n) ⊎ HasNumber number xs n

abbrev pub client_number : Customer → ℕ
client_number seat = seat.client

abbrev pub pump_number : Server → ℕ
pump_number seat = seat.pump

abbrev pub no_customer : Customer
no_customer = record { client = 0; tags = 0; least_ticket = 0; lines = [] }

abbrev pub no_server : Server
no_server = record { pump = 0; lines = [] }

-- the seat of client c among these, wherever it stands
abbrev pub seat_of : List Customer → ℕ → Customer
seat_of seats c = numbered client_number seats c no_customer

-- the seat of pump p among these, wherever it stands
abbrev pub server_of : List Server → ℕ → Server
server_of seats p = numbered pump_number seats p no_server

-- what the clients' seats know of tag t + 1 of so many of a client: its client's line of its slot
abbrev pub client_view : ℕ → List Customer → ℕ → ClientView
client_view tags seats t = line_view (seat_of seats (client_of tags (suc t))).lines (slot_of tags (suc t))

-- the line of index t of the pump that serves its client
abbrev pub work_line : MadeDesk → List Server → ℕ → Option WorkLine
work_line desk seats t = slice_index_or (server_of seats (client_of desk.tags (suc t) % desk.pumps)).lines t None

abbrev pub posted_at : ℕ → Standing → List TagSlip
posted_at tag Nothing = []
posted_at tag (Posted x) = record { tag = tag; slip = x } ∷ []
posted_at tag (Done y) = []
posted_at tag (Held n) = []

abbrev pub done_at : ℕ → Standing → List TagSlip
done_at tag Nothing = []
done_at tag (Posted x) = []
done_at tag (Done y) = record { tag = tag; slip = y } ∷ []
done_at tag (Held n) = []

abbrev pub held_at : ℕ → Standing → List TagTicket
held_at tag Nothing = []
held_at tag (Posted x) = []
held_at tag (Done y) = []
held_at tag (Held n) = record { tag = tag; ticket = n } ∷ []

-- the first n lists of a row, one after the other
unfoldable pub joined : {A : Type 0} → (ℕ → List A) → ℕ → List A
joined f zero = []
joined f (suc t) = joined f t ++ f t

-- what stands at the first n tags; index t is tag t + 1
abbrev pub left_below : (ℕ → Standing) → ℕ → Left
left_below at n = record {
  posted = joined (λ t. posted_at (t + 1) (at t)) n;
  done = joined (λ t. done_at (t + 1) (at t)) n;
  held = joined (λ t. held_at (t + 1) (at t)) n;
}

-- what is left on a desk, by rising tag: each ticket that a client has open is in one of the three lists, once
abbrev pub left_of : MadeDesk → List Customer → List Server → Left
left_of desk clients pumps = left_below (λ t. standing (client_view desk.tags clients t) (work_line desk pumps t)) (desk.tags * desk.clients)

-- all clients' seats of the desk, in order
pub record IsAllClientsOf (desk : MadeDesk) (seats : List Customer) : Type 0 where
  pub count : length seats ≡ desk.clients
  pub own : (c : ℕ) (d : Customer) → c < desk.clients → IsClientOf desk (slice_index_or seats c d)
  pub order : (c : ℕ) (d : Customer) → c < desk.clients → (slice_index_or seats c d).client ≡ c

-- all pumps' seats of the desk, in order
pub record IsAllPumpsOf (desk : MadeDesk) (seats : List Server) : Type 0 where
  pub count : length seats ≡ desk.pumps
  pub own : (p : ℕ) (d : Server) → p < desk.pumps → IsPumpOf desk (slice_index_or seats p d)
  pub order : (p : ℕ) (d : Server) → p < desk.pumps → (slice_index_or seats p d).pump ≡ p

-- each client's seat of the desk is among these, in whatever order
pub record HasEachClientOf (desk : MadeDesk) (seats : List Customer) : Type 0 where
  pub own : All (IsClientOf desk) seats
  pub there : (c : ℕ) → c < desk.clients → HasNumber client_number seats c

-- each pump's seat of the desk is among these, in whatever order
pub record HasEachPumpOf (desk : MadeDesk) (seats : List Server) : Type 0 where
  pub own : All (IsPumpOf desk) seats
  pub there : (p : ℕ) → p < desk.pumps → HasNumber pump_number seats p

-- the first of these with the number n stands at place k
pub record IsFirst {A : Type 0} (number : A → ℕ) (xs : List A) (n k : ℕ) : Type 0 where
  pub within : k < length xs
  pub is : (d : A) → number (slice_index_or xs k d) ≡ n
  pub before : (j : ℕ) (d : A) → j < k → number (slice_index_or xs j d) ≢ n

-- ---- the lists while they grow

abbrev pub none_left : Left
none_left = record { posted = []; done = []; held = [] }

abbrev pub so_far : Lists → Left
so_far lists = record { posted = lists.posted.items; done = lists.done.items; held = lists.held.items }

abbrev pub adding : Left → ℕ → Standing → Left
adding left tag at = record { posted = left.posted ++ posted_at tag at; done = left.done ++ done_at tag at; held = left.held ++ held_at tag at }

pub record HasRoom (n : ℕ) (lists : Lists) : Type 0 where
  pub posted : vec_len lists.posted + n ≤ vec_capacity lists.posted
  pub done : vec_len lists.done + n ≤ vec_capacity lists.done
  pub held : vec_len lists.held + n ≤ vec_capacity lists.held

-- at says of each tag of a client what stands there, by the client's lines and the pumps'
abbrev pub Says : MadeDesk → Customer → List Server → (ℕ → Standing) → Type 0
Says desk seat pumps at =
    (k : ℕ) → k < desk.tags → at (desk.tags * seat.client + k) ≡ standing (line_view seat.lines k) (work_line desk pumps (desk.tags * seat.client + k))

-- the lists of what stands below a client's tags become those of what stands below the next client's
abbrev pub Gathers : MadeDesk → Customer → List Server → Left → Left → Type 0
Gathers desk seat pumps old new = (at : ℕ → Standing) → Says desk seat pumps at → old ≡ left_below at (desk.tags * seat.client)
    → new ≡ left_below at (desk.tags * seat.client + desk.tags)
