-- A tag's number, and its client's.
use Rattle.std.proofs.Common.{◌≡◌, ℕ, zero, suc, ◌<◌, ◌≤◌, nat_le, Bool, true, false, ◌&&◌, cond, List, Some, None, refl, arith}
use Rattle.std.specs.Prelude.{IfSome}
use Rattle.std.proofs.Math.Nat.{div-le_self}
use Rattle.std.proofs.lemmas.Bool.{leb-true}
use Rattle.byte_io.specs.Words.{is_number, number_in, value_of}
use Rattle.uas_profile.specs.Tags.{client_of}

-- a word that is a number of a range is no less than its least
pub number_least : (least most : ℕ) (word : List ℕ) → IfSome (number_in least most word) (λ value. least ≤ value)
number_least least most word = go (is_number word) (nat_le least (value_of word)) refl (nat_le (value_of word) most)
  where
    go : (is low : Bool) → nat_le least (value_of word) ≡ low → (high : Bool)
        → IfSome (cond (is && (low && high)) (Some (value_of word)) None) (λ value. least ≤ value)
    go true true e true = leb-true least (value_of word) e
    go true true e false = tt
    go true false e high = tt
    go false low e high = tt

-- a client has a smaller number than each of its tags
pub owner_small : (tags tag : ℕ) → 0 < tag → client_of tags tag < tag
owner_small tags zero some = absurd (omega (arith, some))
owner_small tags (suc before) some = omega (arith, div-le_self before tags)
