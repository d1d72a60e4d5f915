-- What a crash leaves at each moment of a creation.
use Rattle.std.proofs.Common.{◌≡◌, ◌≢◌, inl, inr, ℕ, [], ◌∷◌, subst}
use Rattle.disk.specs.declared.side.Side.{Side}
use Rattle.disk.specs.declared.side.Side.TheVariants.{A, B}
use Rattle.disk.specs.File.{File, MayLeave, at_rest}
use Rattle.disk.specs.Time.{Contents, MayLeaveNow, OtherMayBe, LeavesOnly}
use Rattle.disk.specs.Moments.{weakened, joined}
use Rattle.disk.specs.Settled.{settled_only}
use Rattle.vault.specs.Store.{BComesFirst}

a_is_not_b : A ≢ B
a_is_not_b same = cc

pub b_is_not_a : B ≢ A
b_is_not_a same = cc

module _ {D : Type 0} (files : D → Side → File) (moment : D → ℕ) (left_at : D → ℕ → Contents → Type 0) where
  a_is_empty : (old : D) → files old A ≡ at_rest [] → (c : Contents) → MayLeave (files old A).durable (c A) → BComesFirst c
  a_is_empty old rests c left = inl (settled_only [] (c A) (subst (λ (f : File). MayLeave f.durable (c A)) rests left))

  -- while the files are looked at
  pub looked : (old new : D) → files old A ≡ at_rest [] → LeavesOnly moment left_at old new (MayLeaveNow (files old)) → LeavesOnly moment left_at old new BComesFirst
  looked old new rests only = weakened moment left_at old new _ _ only (λ c left. a_is_empty old rests c (left A))

  -- while B gets its closed gate
  pub closed : (old new : D) (P : Contents → Type 0) → files old A ≡ at_rest [] → LeavesOnly moment left_at old new (λ c. P c × OtherMayBe B (files old) c)
      → LeavesOnly moment left_at old new BComesFirst
  closed old new P rests only = weakened moment left_at old new _ _ only (λ c left. a_is_empty old rests c (left.1 A a_is_not_b))

  -- and while A is written after that
  pub written : (old mid new : D) (P : Contents → Type 0) → LeavesOnly moment left_at old mid BComesFirst → files mid B ≡ at_rest (0 ∷ [])
      → LeavesOnly moment left_at mid new (λ c. P c × OtherMayBe A (files mid) c) → LeavesOnly moment left_at old new BComesFirst
  written old mid new P before rests only =
      joined moment left_at old mid new _ _ _ before only (λ c it. it)
      (λ c left. inr (settled_only (0 ∷ []) (c B) (subst (λ (f : File). MayLeave f.durable (c B)) rests (left.1 B b_is_not_a))))

  pub both : (old mid new : D) → LeavesOnly moment left_at old mid BComesFirst → LeavesOnly moment left_at mid new BComesFirst → LeavesOnly moment left_at old new BComesFirst
  both old mid new first second = joined moment left_at old mid new _ _ _ first second (λ c it. it) (λ c it. it)
