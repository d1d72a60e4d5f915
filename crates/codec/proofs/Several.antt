-- Elements that are read one after another, as a loop reads them.
use Rattle.std.proofs.Common.{◌≡◌, ◌<◌, ◌≤◌, ◌+◌, ◌-◌, ℕ, suc, List, [], ◌∷◌, ◌++◌, Result, Ok, Err, refl, sym, ap, ◌∙◌, arith, append_assoc}
use Rattle.std.proofs.lemmas.Bool.{le-ltb}
use Rattle.std.proofs.lemmas.List.{append-nil}
use Rattle.codec.specs.declared.error.CodecError.{CodecError}
use Rattle.codec.specs.Reading.{Reading, go_on, always, number, several, counted}

-- elements that were read, in front of those that are still to be read
abbrev pub behind : {X : Type 0} → List X → Result (List X × List ℕ) CodecError → Result (List X × List ℕ) CodecError
behind front read = go_on read (λ xs. always (front ++ xs))

pub behind_none : {X : Type 0} (read : Result (List X × List ℕ) CodecError) → behind [] read ≡ read
behind_none (Ok read) = refl
behind_none (Err error) = refl

pub regroup : {X : Type 0} (front : List X) (x : X) (read : Result (List X × List ℕ) CodecError) → behind front (go_on read (λ xs. always (x ∷ xs))) ≡ behind (front ++ x ∷ []) read
regroup {X = X} front x (Ok read) = ap (λ (xs : List X). Ok (xs, read.1)) (sym (append_assoc front (x ∷ []) read.0))
regroup {X = X} front x (Err error) = refl

-- one more element was read
pub one_more : {X : Type 0} (element : Reading X) (front : List X) (count i : ℕ) (bytes : List ℕ) (x : X) (after : List ℕ) (total : Result (List X × List ℕ) CodecError)
    → i < count → Ok (x, after) ≡ element bytes → behind front (several (count - i) element bytes) ≡ total
    → behind (front ++ x ∷ []) (several (count - (i + 1)) element after) ≡ total
one_more element front count i bytes x after total more is so_far =
    let left : count - i ≡ suc (count - (i + 1)) = omega arith in
    let one : behind front (several (count - i) element bytes) ≡ behind (front ++ x ∷ []) (several (count - (i + 1)) element after) =
    rw (left, ← is) (regroup front x (several (count - (i + 1)) element after)) in
    sym one ∙ so_far

-- the element is not read: this fault comes first
pub fault_comes : {X : Type 0} (element : Reading X) (front : List X) (count i : ℕ) (bytes : List ℕ) (error : CodecError) (total : Result (List X × List ℕ) CodecError)
    → i < count → Err error ≡ element bytes → behind front (several (count - i) element bytes) ≡ total → Err error ≡ total
fault_comes element front count i bytes error total more is so_far =
    let left : count - i ≡ suc (count - (i + 1)) = omega arith in
    let one : behind front (several (count - i) element bytes) ≡ Err error = rw (left, ← is) refl in
    sym one ∙ so_far

-- no element is left to be read
pub all_read : {X : Type 0} (element : Reading X) (front : List X) (count i : ℕ) (bytes : List ℕ) (total : Result (List X × List ℕ) CodecError)
    → count ≤ i → behind front (several (count - i) element bytes) ≡ total → Ok (front, bytes) ≡ total
all_read {X = X} element front count i bytes total none so_far =
    let left : count - i ≡ 0 = omega arith in
    let one : behind front (several (count - i) element bytes) ≡ Ok (front, bytes) = rw left (ap (λ (xs : List X). Ok (xs, bytes)) (append-nil front)) in
    sym one ∙ so_far

-- a count within its bound, and then this number of elements
pub counted_read : {X : Type 0} (width greatest : ℕ) (element : Reading X) (bytes after : List ℕ) (count : ℕ) (read : Result (List X × List ℕ) CodecError)
    → Ok (count, after) ≡ number width bytes → count ≤ greatest → read ≡ several count element after → read ≡ counted width greatest element bytes
counted_read {X = X} width greatest element bytes after count read is within same =
    let one : counted width greatest element bytes ≡ several count element after = rw (← is, le-ltb greatest count within) refl in
    same ∙ sym one
