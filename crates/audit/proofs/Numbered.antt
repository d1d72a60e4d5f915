-- The puts of a list by their numbers, and the addresses of its items.
use Rattle.std.proofs.Common.{◌≡◌, ℕ, ℤ, zero, suc, ◌<◌, List, [], ◌∷◌, ◌++◌, Some, ap, subst, arith}
use Rattle.std.specs.Prelude.{slice_get}
use Rattle.terms.specs.declared.name.Addr.{Addr}
use Rattle.terms.specs.declared.put.Put.{Put}
use Rattle.terms.specs.declared.put.Put.TheVariants as put
use Rattle.graph.specs.Fits.{addresses, IsIn, IsTwiceIn}
use Rattle.machine.proofs.PutFacts.{in_first, in_rest}

-- an item at the address is put, with this number
pub record IsPutAt (puts : List Put) (address : Addr) : Type 0 where
  pub number : ℕ
  pub value : ℤ
  pub is : slice_get puts number ≡ Some (put.Item address value)

-- two are
pub record ArePutAt (puts : List Put) (address : Addr) : Type 0 where
  pub first : ℕ
  pub second : ℕ
  pub before : first < second
  pub value : ℤ
  pub other : ℤ
  pub one : slice_get puts first ≡ Some (put.Item address value)
  pub two : slice_get puts second ≡ Some (put.Item address other)

nowhere : (a : Addr) (before behind : List Addr) → [] ≡ before ++ a ∷ behind → ⊥
nowhere a [] behind none = cc
nowhere a (x ∷ before) behind none = cc

nowhere_twice : (a : Addr) (before between behind : List Addr) → [] ≡ before ++ a ∷ between ++ a ∷ behind → ⊥
nowhere_twice a [] between behind none = cc
nowhere_twice a (x ∷ before) between behind none = cc

one_later : (first : Put) (puts : List Put) (address : Addr) → IsPutAt puts address → IsPutAt (first ∷ puts) address
one_later first puts address it = record { number = suc it.number; value = it.value; is = it.is }

two_later : (first : Put) (puts : List Put) (address : Addr) → ArePutAt puts address → ArePutAt (first ∷ puts) address
two_later first puts address it = record {
  first = suc it.first;
  second = suc it.second;
  before = (let less = it.before in omega arith);
  value = it.value;
  other = it.other;
  one = it.one;
  two = it.two;
}

put_here : (other : Addr) (w : ℤ) (puts : List Put) (address : Addr) → (IsIn address (addresses puts) → IsPutAt puts address) → (before behind : List Addr) → other ∷ addresses puts ≡ before ++ address ∷ behind
    → IsPutAt (put.Item other w ∷ puts) address
put_here other w puts address later [] behind same =
    let one : other ≡ address = cc in
    record { number = 0; value = w; is = ap (λ (a : Addr). Some (put.Item a w)) one }
put_here other w puts address later (x ∷ xs) behind same =
    let it : addresses puts ≡ xs ++ address ∷ behind = cc in
    one_later (put.Item other w) puts address (later (xs, behind, it))

pub put_at : (puts : List Put) (address : Addr) → IsIn address (addresses puts) → IsPutAt puts address
put_at [] address it = absurd (nowhere address it.0 it.1 it.2)
put_at (put.Item other w ∷ puts) address it = put_here other w puts address (put_at puts address) it.0 it.1 it.2
put_at (put.Tag name ∷ puts) address it = one_later (put.Tag name) puts address (put_at puts address it)

two_here : (other : Addr) (w : ℤ) (puts : List Put) (address : Addr) → (IsTwiceIn address (addresses puts) → ArePutAt puts address) → (before between behind : List Addr)
    → other ∷ addresses puts ≡ before ++ address ∷ between ++ address ∷ behind → ArePutAt (put.Item other w ∷ puts) address
two_here other w puts address later [] between behind same =
    let one : other ≡ address = cc in
    let rest : addresses puts ≡ between ++ address ∷ behind = cc in
    let it = put_at puts address (between, behind, rest) in
    record {
      first = 0;
      second = suc it.number;
      before = omega arith;
      value = w;
      other = it.value;
      one = ap (λ (a : Addr). Some (put.Item a w)) one;
      two = it.is;
    }
two_here other w puts address later (x ∷ xs) between behind same =
    let it : addresses puts ≡ xs ++ address ∷ between ++ address ∷ behind = cc in
    two_later (put.Item other w) puts address (later (xs, between, behind, it))

pub put_twice : (puts : List Put) (address : Addr) → IsTwiceIn address (addresses puts) → ArePutAt puts address
put_twice [] address it = absurd (nowhere_twice address it.0 it.1 it.2 it.3)
put_twice (put.Item other w ∷ puts) address it = two_here other w puts address (put_twice puts address) it.0 it.1 it.2 it.3
put_twice (put.Tag name ∷ puts) address it = two_later (put.Tag name) puts address (put_twice puts address it)

-- what is put at an address is among the addresses
pub is_among : (puts : List Put) (number : ℕ) (address : Addr) (value : ℤ) → slice_get puts number ≡ Some (put.Item address value) → IsIn address (addresses puts)
is_among [] number address value is = absurd (cc)
is_among (put.Item other w ∷ puts) zero address value is = let one : other ≡ address = cc in subst (λ (a : Addr). IsIn a (other ∷ addresses puts)) one (in_first other (addresses puts))
is_among (put.Tag name ∷ puts) zero address value is = absurd (cc)
is_among (put.Item other w ∷ puts) (suc number) address value is = in_rest other (addresses puts) address (is_among puts number address value is)
is_among (put.Tag name ∷ puts) (suc number) address value is = is_among puts number address value is
