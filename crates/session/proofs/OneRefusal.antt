-- A put or a get is refused for at most one cause, and if it is refused it is not answered.
use Rattle.std.proofs.Common.{◌≡◌, ◌≢◌, ◌∙◌, ◌==◌, ap, refl, sym, ℕ, ℤ, Bool, true, false, List, length, get_or, slice_get, Option, Some, None, eqb-true, eq-eqb}
use Rattle.std.proofs.lemmas.Bool.{false≢true}
use Rattle.terms.specs.declared.name.Addr.{Addr}
use Rattle.terms.specs.declared.name.Tag.{Tag}
use Rattle.terms.specs.Facts.{tag}
use Rattle.terms.specs.Sets.{Facts}
use Rattle.steptree.specs.Nameable.{Collection}
use Rattle.graph.specs.Fits.{HasOneItemEach, ItemMayCome, TagMayCome}
use Rattle.graph.specs.Graph.{Graph, EnvironmentMayGet, IsOf}
use Rattle.machine.specs.declared.refusal.Refusal.{Refusal}
use Rattle.machine.specs.declared.refusal.Refusal.TheVariants.{NoSuchCollection, NotFromEnvironment, WrongArity, AlreadyPut, Stopped, Repeat}
use Rattle.machine.specs.Machine.{HasOther, RefusesGet, RefusesItem, RefusesTag}
use Rattle.machine.specs.Meaning.{items}
use Rattle.session.specs.declared.reply.Reply.TheVariants as replied
use Rattle.session.specs.OneText.{IsOfMeaning}

-- ---- what the graph says

-- there is no such collection; its keys have another length; the environment may not; it may
data Grade : Type 0 where
  missing : Grade
  another : Grade
  shut : Grade
  allowed : Grade

-- a name with this collection number and this number of components in its key is of this grade
abbrev Grades : List Collection → ℕ → ℕ → Bool → Grade → Type 0
Grades collections number components may missing = slice_get collections number ≡ None
Grades collections number components may another = HasOther collections number components
Grades collections number components may shut = IsOf collections number components × (may ≡ false)
Grades collections number components may allowed = IsOf collections number components × (may ≡ true)

-- the grade, computed
abbrev of_length : Bool → Bool → Grade
of_length false may = another
of_length true false = shut
of_length true true = allowed

-- the grade of what is found by a number
abbrev grade : Option Collection → ℕ → Bool → Grade
grade None components may = missing
grade (Some collection) components may = of_length (collection.components == components) may

-- numbers that differ are not equal by the test
unlike : (m n : ℕ) → m ≢ n → (m == n) ≡ false
unlike m n apart = by (m == n) refl
  where
    by : (b : Bool) → (m == n) ≡ b → b ≡ false
    by true same = absurd (apart (eqb-true m n same))
    by false other = refl

-- a collection is of one grade
module _ (collections : List Collection) (number components : ℕ) (may : Bool) where
  of_one : (collection : Collection) (b c : Bool) → slice_get collections number ≡ Some collection → (collection.components == components) ≡ b → may ≡ c → grade (slice_get collections number) components may ≡ of_length b c
  of_one collection b c is long allows = ap (λ (o : Option Collection). grade o components may) is ∙ (λ i. of_length (long i) (allows i))

  graded : (one : Grade) → Grades collections number components may one → grade (slice_get collections number) components may ≡ one
  graded missing is = ap (λ (o : Option Collection). grade o components may) is
  graded another is = of_one is.0 false may is.1 (unlike is.0.components components is.2) refl
  graded shut is = of_one is.0.0 true false is.0.1 (eq-eqb is.0.0.components components is.0.2) is.1
  graded allowed is = of_one is.0.0 true true is.0.1 (eq-eqb is.0.0.components components is.0.2) is.1

  one_grade : (one two : Grade) → Grades collections number components may one → Grades collections number components may two → one ≡ two
  one_grade one two first second = sym (graded one first) ∙ graded two second

-- ---- causes

-- the grade at which a cause comes
abbrev grade_of : Refusal → Grade
grade_of NoSuchCollection = missing
grade_of WrongArity = another
grade_of NotFromEnvironment = shut
grade_of (AlreadyPut value) = allowed
grade_of (Stopped instance kind) = allowed
grade_of Repeat = allowed

-- the cause of a grade; of the last grade, this cause
abbrev cause_of : Refusal → Grade → Refusal
cause_of cause missing = NoSuchCollection
cause_of cause another = WrongArity
cause_of cause shut = NotFromEnvironment
cause_of cause allowed = cause

-- a cause is the cause of its grade
by_grade : (cause : Refusal) → cause ≡ cause_of cause (grade_of cause)
by_grade NoSuchCollection = refl
by_grade WrongArity = refl
by_grade NotFromEnvironment = refl
by_grade (AlreadyPut value) = refl
by_grade (Stopped instance kind) = refl
by_grade Repeat = refl

-- causes of one grade are equal, if those of the last grade are
one_of_grade : (one two : Refusal) → grade_of one ≡ grade_of two → (grade_of one ≡ allowed → grade_of two ≡ allowed → one ≡ two) → one ≡ two
one_of_grade one two same where_it_may = by (grade_of one) refl (sym same)
  where
    told : (cause : Refusal) (grade : Grade) → grade_of cause ≡ grade → cause ≡ cause_of cause grade
    told cause grade is = by_grade cause ∙ ap (cause_of cause) is

    by : (grade : Grade) → grade_of one ≡ grade → grade_of two ≡ grade_of one → one ≡ two
    by missing is other = told one missing is ∙ sym (told two missing (other ∙ is))
    by another is other = told one another is ∙ sym (told two another (other ∙ is))
    by shut is other = told one shut is ∙ sym (told two shut (other ∙ is))
    by allowed is other = where_it_may is (other ∙ is)

-- the graph and the facts alone lead to this refusal
abbrev pub IsMeant : Refusal → Type 0
IsMeant cause = IsOfMeaning (replied.Refused cause)

-- ---- items

module _ (g : Graph) (X : Facts) (address : Addr) where
  -- the grade of the name, by what the environment may do
  abbrev ItemGrades : Grade → Type 0
  ItemGrades = Grades g.items address.collection.0 (length address.key) (get_or g.environment_item_puts address.collection.0 false)

  -- it has one grade
  one_item_grade : (one two : Grade) → ItemGrades one → ItemGrades two → one ≡ two
  one_item_grade = one_grade g.items address.collection.0 (length address.key) (get_or g.environment_item_puts address.collection.0 false)

  -- a cause comes only at its own grade
  item_grade : (cause : Refusal) → RefusesItem g X address cause → ItemGrades (grade_of cause)
  item_grade NoSuchCollection why = why
  item_grade WrongArity why = why
  item_grade NotFromEnvironment why = why
  item_grade (AlreadyPut value) why = why.0
  item_grade (Stopped instance kind) why = why.0
  item_grade Repeat why = absurd why

  -- if the environment may put it, the put is refused because an item is there
  item_there : (cause : Refusal) → RefusesItem g X address cause → IsMeant cause → grade_of cause ≡ allowed → (value : ℤ) × (cause ≡ AlreadyPut value) × items X address value
  item_there NoSuchCollection why meant is = absurd (cc)
  item_there WrongArity why meant is = absurd (cc)
  item_there NotFromEnvironment why meant is = absurd (cc)
  item_there (AlreadyPut value) why meant is = (value, refl, why.2)
  item_there (Stopped instance kind) why meant is = absurd meant
  item_there Repeat why meant is = absurd why

  -- the put of the item is refused for at most one cause
  pub one_item_cause : HasOneItemEach X → (one two : Refusal) → RefusesItem g X address one → RefusesItem g X address two → IsMeant one → IsMeant two → one ≡ two
  one_item_cause each one two first second meant also =
      one_of_grade one two (one_item_grade (grade_of one) (grade_of two) (item_grade one first) (item_grade two second))
      (λ is other.
      let a = item_there one first meant is in
      let b = item_there two second also other in
      a.1 ∙ ap AlreadyPut (each address a.0 b.0 a.2.0 b.2.0 a.2.1 b.2.1).0 ∙ sym b.1)

  -- and for none if the item may come
  pub item_not_refused : ItemMayCome g X address → (cause : Refusal) → RefusesItem g X address cause → IsMeant cause → ⊥
  item_not_refused may cause why meant =
      let it = item_there cause why meant (one_item_grade (grade_of cause) allowed (item_grade cause why) may.0) in
      false≢true (sym (may.1 it.0 it.2.0) ∙ it.2.1)

-- ---- tags

module _ (g : Graph) (X : Facts) (name : Tag) where
  -- the grade of the name, by what the environment may do
  abbrev TagGrades : Grade → Type 0
  TagGrades = Grades g.tags name.collection.0 (length name.key) (get_or g.environment_tag_puts name.collection.0 false)

  -- it has one grade
  one_tag_grade : (one two : Grade) → TagGrades one → TagGrades two → one ≡ two
  one_tag_grade = one_grade g.tags name.collection.0 (length name.key) (get_or g.environment_tag_puts name.collection.0 false)

  -- a cause comes only at its own grade
  tag_grade : (cause : Refusal) → RefusesTag g X name cause → TagGrades (grade_of cause)
  tag_grade NoSuchCollection why = why
  tag_grade WrongArity why = why
  tag_grade NotFromEnvironment why = why
  tag_grade (AlreadyPut value) why = absurd why
  tag_grade (Stopped instance kind) why = why.0
  tag_grade Repeat why = why.0

  -- if the environment may put it, the put is refused because the tag is there
  tag_there : (cause : Refusal) → RefusesTag g X name cause → IsMeant cause → grade_of cause ≡ allowed → (cause ≡ Repeat) × (X (tag name) ≡ true)
  tag_there NoSuchCollection why meant is = absurd (cc)
  tag_there WrongArity why meant is = absurd (cc)
  tag_there NotFromEnvironment why meant is = absurd (cc)
  tag_there (AlreadyPut value) why meant is = absurd why
  tag_there (Stopped instance kind) why meant is = absurd meant
  tag_there Repeat why meant is = (refl, why.2)

  -- the put of the tag is refused for at most one cause
  pub one_tag_cause : (one two : Refusal) → RefusesTag g X name one → RefusesTag g X name two → IsMeant one → IsMeant two → one ≡ two
  one_tag_cause one two first second meant also =
      one_of_grade one two (one_tag_grade (grade_of one) (grade_of two) (tag_grade one first) (tag_grade two second))
      (λ is other. (tag_there one first meant is).0 ∙ sym (tag_there two second also other).0)

  -- and for none if the tag may come
  pub tag_not_refused : TagMayCome g X name → (cause : Refusal) → RefusesTag g X name cause → IsMeant cause → ⊥
  tag_not_refused may cause why meant =
      let it = tag_there cause why meant (one_tag_grade (grade_of cause) allowed (tag_grade cause why) may.0) in
      false≢true (sym may.1 ∙ it.1)

-- ---- gets

module _ (g : Graph) (address : Addr) where
  -- the grade of the name, by what the environment may do
  abbrev GetGrades : Grade → Type 0
  GetGrades = Grades g.items address.collection.0 (length address.key) (get_or g.environment_gets address.collection.0 false)

  -- it has one grade
  one_get_grade : (one two : Grade) → GetGrades one → GetGrades two → one ≡ two
  one_get_grade = one_grade g.items address.collection.0 (length address.key) (get_or g.environment_gets address.collection.0 false)

  -- a cause comes only at its own grade
  get_grade : (cause : Refusal) → RefusesGet g address cause → GetGrades (grade_of cause)
  get_grade NoSuchCollection why = why
  get_grade WrongArity why = why
  get_grade NotFromEnvironment why = why
  get_grade (AlreadyPut value) why = absurd why
  get_grade (Stopped instance kind) why = absurd why
  get_grade Repeat why = absurd why

  -- if the environment may get it, nothing refuses the get
  get_shut : (cause : Refusal) → RefusesGet g address cause → grade_of cause ≡ allowed → ⊥
  get_shut NoSuchCollection why is = cc
  get_shut WrongArity why is = cc
  get_shut NotFromEnvironment why is = cc
  get_shut (AlreadyPut value) why is = why
  get_shut (Stopped instance kind) why is = why
  get_shut Repeat why is = why

  -- the get is refused for at most one cause
  pub one_get_cause : (one two : Refusal) → RefusesGet g address one → RefusesGet g address two → one ≡ two
  one_get_cause one two first second =
      one_of_grade one two (one_get_grade (grade_of one) (grade_of two) (get_grade one first) (get_grade two second)) (λ is other. absurd (get_shut one first is))

  -- and for none if the environment may get it
  pub get_not_refused : EnvironmentMayGet g address → (cause : Refusal) → RefusesGet g address cause → ⊥
  get_not_refused may cause why = get_shut cause why (one_get_grade (grade_of cause) allowed (get_grade cause why) may)
