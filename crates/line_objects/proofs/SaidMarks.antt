-- The last mark of a line with what is said of it.
use Rattle.std.proofs.Common.{◌≡◌, ◌∙◌, ◌+◌, ◌==◌, ◌&&◌, ℕ, zero, suc, Bool, true, false, true≢false, not, List, [], ◌∷◌, ◌++◌, drop, take, length, Some, None, refl, ap, sym, arith}
use Rattle.std.proofs.lemmas.Bool.{and_parts}
use Rattle.std.proofs.lemmas.List.Folds.{list_all-append}
use Rattle.std.proofs.lemmas.Slice.Eq.{bytes_eq-Decides}
use Rattle.line_objects.specs.Objects.{has_no_semicolon, is_marked, last_mark, last_of, mark}
use Rattle.line_objects.proofs.Marks.{last-from}

parts : (n : ℕ) (line : List ℕ) → take n line ++ drop n line ≡ line
parts zero line = refl
parts (suc n) [] = refl
parts (suc n) (byte ∷ rest) = ap (λ l. byte ∷ l) (parts n rest)

no-mark : (line : List ℕ) → has_no_semicolon line ≡ true → is_marked line ≡ false
no-mark line none = go (is_marked line) refl
  where
    go : (b : Bool) → is_marked line ≡ b → b ≡ false
    go true is =
        let begins : take 4 line ≡ mark = (bytes_eq-Decides (take 4 line) mark).0 is in
        let some : has_no_semicolon line ≡ false =
        sym (ap has_no_semicolon (parts 4 line)) ∙ (list_all-append (λ b. not (b == 59)) (take 4 line) (drop 4 line)
        ∙ ap (λ l. has_no_semicolon l && has_no_semicolon (drop 4 line)) begins) in
        absurd (true≢false (sym none ∙ some))
    go false is = refl

-- where no mark stands, none is the last
unmarked : (byte : ℕ) (rest : List ℕ) → last_mark rest ≡ None → is_marked (byte ∷ rest) ≡ false → last_mark (byte ∷ rest) ≡ None
unfolding last_mark
unmarked byte rest none is = ap (λ o. last_of o (is_marked (byte ∷ rest))) none ∙ ap (last_of None) is

none-said : (said : List ℕ) → has_no_semicolon said ≡ true → last_mark said ≡ None
unfolding last_mark
none-said [] none = refl
none-said (byte ∷ rest) none =
    unmarked byte rest (none-said rest (and_parts (not (byte == 59)) (has_no_semicolon rest) none).1) (no-mark (byte ∷ rest) none)

-- a mark in front of what is said is the last
said-marked : (said : List ℕ) → has_no_semicolon said ≡ true → last_mark (mark ++ said) ≡ Some 0
unfolding last_mark
said-marked said none =
    let space = unmarked 32 said (none-said said none) (no-mark (32 ∷ said) none) in
    let semicolon = unmarked 59 (32 ∷ said) space refl in
    let second = unmarked 32 (59 ∷ 32 ∷ said) semicolon refl in
    ap (λ o. last_of o (is_marked (32 ∷ 32 ∷ 59 ∷ 32 ∷ said))) second

behind : (line rest : List ℕ) → drop (length line) (line ++ rest) ≡ rest
behind [] rest = refl
behind (byte ∷ line) rest = behind line rest

pub mark-found : (line said : List ℕ) → has_no_semicolon said ≡ true → last_mark (line ++ (mark ++ said)) ≡ Some (length line)
mark-found line said none =
    let same : length line + 0 ≡ length line = omega arith in
    last-from (length line) 0 (line ++ (mark ++ said)) (ap last_mark (behind line (mark ++ said)) ∙ said-marked said none) ∙ ap (λ k. Some k) same
