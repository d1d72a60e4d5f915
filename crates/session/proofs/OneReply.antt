-- A command has one reply, and the same facts come by it, if the graph and the facts alone determine its reply.
use Rattle.std.proofs.Common.{◌≡◌, ◌≢◌, ◌∙◌, ◌⊎◌, ◌++◌, inl, inr, ap, refl, sym, subst, ℕ, ℤ, codes, List, [], ◌∷◌, length, Some, None}
use Rattle.std.proofs.lemmas.Bool.{false≢true}
use Rattle.std.specs.Fmt.{decimal}
use Rattle.terms.specs.declared.event.Event.{Event}
use Rattle.terms.specs.declared.event.Event.TheVariants.{EnvItem, EnvTag}
use Rattle.terms.specs.declared.name.Addr.{Addr}
use Rattle.terms.specs.declared.name.Inst.{Inst}
use Rattle.terms.specs.Facts as stated
use Rattle.terms.specs.Sets.{Facts, OneFact, with_facts}
use Rattle.steptree.specs.Laws.{LookUpEndsOnce}
use Rattle.graph.specs.Fits.{HasOneItemEach}
use Rattle.graph.specs.Graph.{Graph, EnvironmentMayGet}
use Rattle.machine.specs.declared.refusal.Refusal.{Refusal}
use Rattle.machine.specs.Legal.{IsLegal, IsQuiet}
use Rattle.machine.specs.Machine.{IsValueAt, RefusesGet, RefusesItem, RefusesTag}
use Rattle.machine.specs.State.{AreLegalFrom, IsReached}
use Rattle.machine.specs.StateLaws.{OneMeaningEach, ReachedGoesOn, ReachedHasOneItem, ReachedIsMeaning}
use Rattle.commit.proofs.Lists.{put_nothing, with_nothing}
use Rattle.report.specs.ReportText.{line}
use Rattle.script.specs.declared.command.Command.{Command}
use Rattle.script.specs.declared.command.Command.TheVariants.{Put, Tag, Get, Run}
use Rattle.session.specs.declared.reply.Reply.{Reply}
use Rattle.session.specs.declared.reply.Reply.TheVariants.{Done, Value, Absent, Complete, Blocked, Stopped, Limit, Asked, Refused, Full, Halted, Device, NoMemory, NoThread}
use Rattle.session.specs.Answers.{AreAllDone, AreWaiting, Drive, RepliesGet, RepliesPut, RepliesRun, RepliesTo, TellsRun}
use Rattle.session.specs.OneText.{IsOfMeaning}
use Rattle.session.specs.Replies.{reply_text, waiting_lines}
use Rattle.session.proofs.OneRefusal.{IsMeant, get_not_refused, item_not_refused, one_get_cause, one_item_cause, one_tag_cause, tag_not_refused}
use Rattle.session.proofs.OneWaiting.{none_waits, one_waiting}

-- two replies to one command on a store with these facts: they have the same text, the same facts come, and the events of the first are legal
pub record AreOne (g : Graph) (X : Facts) (reply other : Reply) (events came : List Event) : Type 0 where
  pub text : reply_text g reply ≡ reply_text g other
  pub facts : with_facts X (stated.facts events) ≡ with_facts X (stated.facts came)
  pub legal : AreLegalFrom g X events

-- ---- puts

-- a put comes, or it is refused
abbrev PutComesTo : Graph → Facts → (Refusal → Type 0) → Event → List Event → Reply → Type 0
PutComesTo g X why event came reply = ((reply ≡ Done) × (came ≡ event ∷ []) × IsLegal g X event) ⊎ ((cause : Refusal) × (reply ≡ Refused cause) × (came ≡ []) × why cause × IsMeant cause)

-- what a put comes to, by the reply to it
put_kind : (g : Graph) (X : Facts) (why : Refusal → Type 0) (event : Event) (came : List Event) (reply : Reply) → RepliesPut g X why event came reply → IsOfMeaning reply → PutComesTo g X why event came reply
put_kind g X why event came Done it meant = inl (refl, it.0, it.1)
put_kind g X why event came (Refused cause) it meant = inr (cause, refl, it.0, it.1, meant)
put_kind g X why event came (Value at v) it meant = absurd it
put_kind g X why event came (Absent at) it meant = absurd it
put_kind g X why event came Complete it meant = absurd it
put_kind g X why event came (Blocked waiting) it meant = absurd it
put_kind g X why event came (Stopped instance kind) it meant = absurd it
put_kind g X why event came Limit it meant = absurd it
put_kind g X why event came Asked it meant = absurd it
put_kind g X why event came Full it meant = absurd meant
put_kind g X why event came Halted it meant = absurd meant
put_kind g X why event came Device it meant = absurd meant
put_kind g X why event came NoMemory it meant = absurd meant
put_kind g X why event came NoThread it meant = absurd it

-- if a put has at most one cause to be refused, and none if it may come, then two replies to it are the same
one_put : (g : Graph) (X : Facts) (why : Refusal → Type 0) (event : Event) → ((one two : Refusal) → why one → why two → IsMeant one → IsMeant two → one ≡ two)
    → (IsLegal g X event → (cause : Refusal) → why cause → IsMeant cause → ⊥) → (reply other : Reply) (events came : List Event)
    → PutComesTo g X why event events reply → PutComesTo g X why event came other → AreOne g X reply other events came
one_put g X why event one_cause not_refused reply other events came (inl one) (inl two) = record {
  text = ap (reply_text g) (one.0 ∙ sym two.0);
  facts = ap (λ (list : List Event). with_facts X (stated.facts list)) (one.1 ∙ sym two.1);
  legal = subst (AreLegalFrom g X) (sym one.1) (one.2, tt);
}
one_put g X why event one_cause not_refused reply other events came (inl one) (inr two) = absurd (not_refused one.2 two.0 two.3 two.4)
one_put g X why event one_cause not_refused reply other events came (inr one) (inl two) = absurd (not_refused two.2 one.0 one.3 one.4)
one_put g X why event one_cause not_refused reply other events came (inr one) (inr two) = record {
  text = ap (reply_text g) (one.1 ∙ ap Refused (one_cause one.0 two.0 one.3 two.3 one.4 two.4) ∙ sym two.1);
  facts = ap (λ (list : List Event). with_facts X (stated.facts list)) (one.2 ∙ sym two.2);
  legal = subst (AreLegalFrom g X) (sym one.2) tt;
}

-- ---- gets

-- the reply says which item is there, or that none is, or the get is refused
abbrev GetComesTo : Graph → Facts → Addr → Reply → Type 0
GetComesTo g X address reply = ((v : ℤ) × (reply ≡ Value address v) × EnvironmentMayGet g address × IsValueAt X address (Some v))
    ⊎ (((reply ≡ Absent address) × EnvironmentMayGet g address × IsValueAt X address None) ⊎ ((cause : Refusal) × (reply ≡ Refused cause) × RefusesGet g address cause))

-- what a get comes to, by the reply to it
get_kind : (g : Graph) (X : Facts) (address : Addr) (came : List Event) (reply : Reply) → RepliesGet g X address came reply → IsOfMeaning reply → (came ≡ []) × GetComesTo g X address reply
get_kind g X address came (Value at v) it meant = (it.0, inl (v, ap (λ (a : Addr). Value a v) it.1, it.2, it.3))
get_kind g X address came (Absent at) it meant = (it.0, inr (inl (ap Absent it.1, it.2, it.3)))
get_kind g X address came (Refused cause) it meant = (it.0, inr (inr (cause, refl, it.1)))
get_kind g X address came Done it meant = absurd it
get_kind g X address came Complete it meant = absurd it
get_kind g X address came (Blocked waiting) it meant = absurd it
get_kind g X address came (Stopped instance kind) it meant = absurd it
get_kind g X address came Limit it meant = absurd it
get_kind g X address came Asked it meant = absurd it
get_kind g X address came Full it meant = absurd it
get_kind g X address came Halted it meant = absurd meant
get_kind g X address came Device it meant = absurd it
get_kind g X address came NoMemory it meant = absurd it
get_kind g X address came NoThread it meant = absurd it

-- two replies to a get are the same
one_get : (g : Graph) (X : Facts) → HasOneItemEach X → (address : Addr) (reply other : Reply) → GetComesTo g X address reply → GetComesTo g X address other → reply ≡ other
one_get g X each address reply other (inl one) (inl two) = one.1 ∙ ap (Value address) (each address one.0 two.0 one.3.0 two.3.0 one.3.1 two.3.1).0 ∙ sym two.1
one_get g X each address reply other (inl one) (inr (inl two)) = absurd (false≢true (sym (two.2 one.0 one.3.0) ∙ one.3.1))
one_get g X each address reply other (inl one) (inr (inr two)) = absurd (get_not_refused g address one.2 two.0 two.2)
one_get g X each address reply other (inr (inl one)) (inl two) = absurd (false≢true (sym (one.2 two.0 two.3.0) ∙ two.3.1))
one_get g X each address reply other (inr (inl one)) (inr (inl two)) = one.0 ∙ sym two.0
one_get g X each address reply other (inr (inl one)) (inr (inr two)) = absurd (get_not_refused g address one.1 two.0 two.2)
one_get g X each address reply other (inr (inr one)) (inl two) = absurd (get_not_refused g address two.2 one.0 one.2)
one_get g X each address reply other (inr (inr one)) (inr (inl two)) = absurd (get_not_refused g address two.1 one.0 one.2)
one_get g X each address reply other (inr (inr one)) (inr (inr two)) = one.1 ∙ ap Refused (one_get_cause g address one.0 two.0 one.2 two.2) ∙ sym two.1

-- no event comes by a get
gets_nothing : (g : Graph) (X : Facts) (reply other : Reply) (events came : List Event) → events ≡ [] → came ≡ [] → reply ≡ other → AreOne g X reply other events came
gets_nothing g X reply other events came none nothing same = record {
  text = ap (reply_text g) same;
  facts = ap (λ (list : List Event). with_facts X (stated.facts list)) (none ∙ sym nothing);
  legal = subst (AreLegalFrom g X) (sym none) tt;
}

-- ---- runs

-- what is written if these wait
abbrev blocked_text : Graph → List (Inst × Addr) → List ℕ
blocked_text g list = line (codes "blocked " ++ decimal (length list)) ++ waiting_lines g list

-- all is done, or some wait
abbrev RunComesTo : Graph → Facts → Reply → Type 0
RunComesTo g X reply = ((reply ≡ Complete) × AreAllDone g X) ⊎ ((list : List (Inst × Addr)) × (reply_text g reply ≡ blocked_text g list) × AreWaiting g X list × (list ≢ []))

-- what a run comes to, by the reply to it
run_kind : (g : Graph) (drive : Drive) (X : Facts) (count : ℕ) (reply : Reply) → TellsRun g drive X count reply → IsOfMeaning reply → IsQuiet g X × RunComesTo g X reply
run_kind g drive X count Complete it meant = (it.0, inl (refl, it.1))
run_kind g drive X count (Blocked waiting) it meant = (it.0, inr (waiting.items, refl, it.1, it.2))
run_kind g drive X count (Stopped instance kind) it meant = absurd meant
run_kind g drive X count Limit it meant = absurd meant
run_kind g drive X count Asked it meant = absurd meant
run_kind g drive X count Full it meant = absurd meant
run_kind g drive X count NoThread it meant = absurd meant
run_kind g drive X count NoMemory it meant = absurd meant
run_kind g drive X count Halted it meant = absurd meant
run_kind g drive X count Done it meant = absurd it
run_kind g drive X count (Value at v) it meant = absurd it
run_kind g drive X count (Absent at) it meant = absurd it
run_kind g drive X count (Refused cause) it meant = absurd it
run_kind g drive X count Device it meant = absurd it

module _ (told : OneFact) (once : LookUpEndsOnce) (goes_on : ReachedGoesOn) (one_item : ReachedHasOneItem) (is_meaning : ReachedIsMeaning) (one_meaning : OneMeaningEach) (g : Graph) where
  -- if the facts that are reached are quiet, two replies to a run have one text
  one_end : (E X : Facts) → IsReached g E X → (reply other : Reply) → RunComesTo g X reply → RunComesTo g X other → reply_text g reply ≡ reply_text g other
  one_end E X reached reply other (inl one) (inl two) = ap (reply_text g) (one.0 ∙ sym two.0)
  one_end E X reached reply other (inl one) (inr two) = absurd (two.3 (none_waits g X one.1 two.0 two.2))
  one_end E X reached reply other (inr one) (inl two) = absurd (one.3 (none_waits g X two.1 one.0 one.2))
  one_end E X reached reply other (inr one) (inr two) =
      one.1 ∙ ap (blocked_text g) (one_waiting told once g E X reached (one_item g E X reached) one.0 two.0 one.2 two.2) ∙ sym two.1

  -- a run leads to facts that are reached from the same environment
  run_reaches : (drive : Drive) (E X : Facts) → IsReached g E X → (came : List Event) (reply : Reply) → RepliesRun g drive X came reply → IsReached g E (with_facts X (stated.facts came))
  run_reaches drive E X reached came reply it =
      subst (λ (F : Facts). IsReached g F (with_facts X (stated.facts came))) (ap (with_facts E) (put_nothing came it.are_ends) ∙ with_nothing E) (goes_on g E X came reached it.legal)

  -- two replies to a run have one text, and both runs lead to the same facts
  one_run : (one two : Drive) (E X : Facts) → IsReached g E X → (reply other : Reply) (events came : List Event) → RepliesRun g one X events reply → RepliesRun g two X came other
      → IsOfMeaning reply → IsOfMeaning other → AreOne g X reply other events came
  one_run one two E X reached reply other events came first second meant also =
      let Y : Facts = with_facts X (stated.facts events) in
      let Z : Facts = with_facts X (stated.facts came) in
      let at = run_reaches one E X reached events reply first in
      let there = run_reaches two E X reached came other second in
      let a = run_kind g one Y (length events) reply first.told meant in
      let b = run_kind g two Z (length came) other second.told also in
      let same : Y ≡ Z = λ i fact. one_meaning g E Y Z (is_meaning g E Y at a.0).0 (is_meaning g E Z there b.0).0 fact i in
      record {
        text = one_end E Y at reply other a.1 (subst (λ (F : Facts). RunComesTo g F other) (sym same) b.1);
        facts = same;
        legal = first.legal;
      }

  -- ---- commands

  -- two replies to a command, by its kind
  pub one_reply : (one two : Drive) (E X : Facts) → IsReached g E X → (command : Command) (reply other : Reply) (events came : List Event) → RepliesTo g one X command events reply → RepliesTo g two X command came other
      → IsOfMeaning reply → IsOfMeaning other → AreOne g X reply other events came
  one_reply one two E X reached (Put address v) reply other events came first second meant also =
      one_put g X (RefusesItem g X address) (EnvItem address v) (one_item_cause g X address (one_item g E X reached)) (λ legal. item_not_refused g X address legal.event_is_legal) reply other events came
      (put_kind g X (RefusesItem g X address) (EnvItem address v) events reply first meant) (put_kind g X (RefusesItem g X address) (EnvItem address v) came other second also)
  one_reply one two E X reached (Tag name) reply other events came first second meant also =
      one_put g X (RefusesTag g X name) (EnvTag name) (one_tag_cause g X name) (λ legal. tag_not_refused g X name legal.event_is_legal) reply other events came
      (put_kind g X (RefusesTag g X name) (EnvTag name) events reply first meant) (put_kind g X (RefusesTag g X name) (EnvTag name) came other second also)
  one_reply one two E X reached (Get address) reply other events came first second meant also =
      let a = get_kind g X address events reply first meant in
      let b = get_kind g X address came other second also in
      gets_nothing g X reply other events came a.0 b.0 (one_get g X (one_item g E X reached) address reply other a.1 b.1)
  one_reply one two E X reached Run reply other events came first second meant also = one_run one two E X reached reply other events came first second meant also
