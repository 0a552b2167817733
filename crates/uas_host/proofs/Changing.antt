-- A list whose elements are changed one after another, and the tickets of the first places.
use Rattle.std.proofs.Common.{◌≡◌, ℕ, zero, suc, ◌+◌, ◌<◌, List, [], ◌∷◌, ◌++◌, length, take, map, Option, Some, None, refl, arith, sym, ap, ◌∙◌}
use Rattle.std.specs.Prelude.{slice_set, slice_index_or}
use Rattle.scsi_cmd.specs.Held.{held_at}
use Rattle.uas_host.specs.declared.HostEntry.{HostEntry}
use Rattle.uas_host.specs.Tasks.{tickets_of}

-- the first n elements are changed
abbrev pub first_changed : {A : Type 0} → (A → A) → ℕ → List A → List A
first_changed f zero list = list
first_changed f (suc n) [] = []
first_changed f (suc n) (x ∷ xs) = f x ∷ first_changed f n xs

pub first_changed-all : {A : Type 0} → (f : A → A) (list : List A) → first_changed f (length list) list ≡ map f list
first_changed-all f [] = refl
first_changed-all f (x ∷ xs) = ap (λ rest. f x ∷ rest) (first_changed-all f xs)

-- all of them are, behind the last
pub first_changed-end : {A : Type 0} → (f : A → A) (list now : List A) (n : ℕ) → n ≡ length list → now ≡ first_changed f n list → now ≡ map f list
first_changed-end f list now n long so_far = so_far ∙ (ap (λ k. first_changed f k list) long ∙ first_changed-all f list)

pub first_changed-same : {A : Type 0} → (f : A → A) (n : ℕ) (list : List A) → length (first_changed f n list) ≡ length list
first_changed-same f zero list = refl
first_changed-same f (suc n) [] = refl
first_changed-same f (suc n) (x ∷ xs) = ap suc (first_changed-same f n xs)

-- the next one is changed
pub first_changed-set : {A : Type 0} → (f : A → A) (n : ℕ) (list : List A) (d : A) → n < length list →
    slice_set (first_changed f n list) n (f (slice_index_or (first_changed f n list) n d)) ≡ first_changed f (suc n) list
first_changed-set f n [] d within = absurd (omega arith)
first_changed-set f zero (x ∷ xs) d within = refl
first_changed-set f (suc n) (x ∷ xs) d within = ap (λ rest. f x ∷ rest) (first_changed-set f n xs d (omega arith))

tickets_of-more : (entries : List (Option HostEntry)) (slot : ℕ) → slot < length entries →
    tickets_of (take (suc slot) entries) ≡ tickets_of (take slot entries) ++ tickets_of (held_at entries slot ∷ [])
tickets_of-more [] slot within = absurd (omega arith)
tickets_of-more (held ∷ rest) zero within = refl
tickets_of-more (None ∷ rest) (suc slot) within = tickets_of-more rest slot (omega arith)
tickets_of-more (Some held ∷ rest) (suc slot) within = ap (λ tickets. held.ticket ∷ tickets) (tickets_of-more rest slot (omega arith))

-- the ticket of the next place is added
pub tickets-next : (entries : List (Option HostEntry)) (slot : ℕ) (before after : List ℕ) (held : Option HostEntry) → slot < length entries →
    held ≡ held_at entries slot → before ≡ tickets_of (take slot entries) → after ≡ before ++ tickets_of (held ∷ []) →
    after ≡ tickets_of (take (slot + 1) entries)
tickets-next entries slot before after held within is so_far then =
    let next : slot + 1 ≡ suc slot = omega arith in
    rw next (then ∙ (ap (λ tickets. tickets ++ tickets_of (held ∷ [])) so_far
    ∙ (ap (λ h. tickets_of (take slot entries) ++ tickets_of (h ∷ [])) is ∙ sym (tickets_of-more entries slot within))))

-- the next place is changed
pub changed-next : {A : Type 0} → (f : A → A) (list now : List A) (n : ℕ) (d new : A) → n < length list → now ≡ first_changed f n list →
    new ≡ f (slice_index_or now n d) → slice_set now n new ≡ first_changed f (n + 1) list
changed-next f list now n d new within so_far then =
    let next : n + 1 ≡ suc n = omega arith in
    rw (next, then, so_far) (first_changed-set f n list d within)
