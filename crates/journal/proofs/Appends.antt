-- What an append leaves, by how far it came: the records are written behind the closed gate, and then the gate is opened.
use Rattle.std.proofs.Common.{◌≡◌, ℕ, ◌+◌, ◌≤◌, ◌<◌, ◌^◌, List, [], ◌∷◌, ◌++◌, length, take, drop, replicate, refl, sym, ap, subst, ◌∙◌, arith}
use Rattle.std.specs.Prelude.{◌↔◌, Result, Ok, Err}
use Rattle.disk.specs.declared.side.Side.{Side}
use Rattle.disk.specs.declared.storage.Disk.{Ghosts}
use Rattle.disk.specs.File.{File, MayLeave, at_rest, overwritten}
use Rattle.disk.specs.Settled.{settled_only}
use Rattle.disk.specs.Time.{Contents, MayLeaveNow, OtherStays, OtherMayBe}
use Rattle.disk.specs.Storage.{Leaves, WritesSynced}
use Rattle.disk.specs.Moments.{begun, weakened}
use Rattle.journal.specs.Records.{records, StandsFor}
use Rattle.journal.specs.declared.journal.Journal.{Journal}
use Rattle.journal.specs.Journal.{IsAt, BeforeOrAfter, Appends}
use Rattle.journal.proofs.Appending.{opens, short_within, crash_now, crash_behind, appended, end_after, moments_of_both, other_moments, written_in_two}

module _ {D : Type 0} (storage : Ghosts D) where
  -- no call of the disk was made
  pub nothing_appended : {T E : Type 0} (at_now : (disk : D) (contents : Contents) → storage.left_at disk (storage.moment disk) contents ↔ MayLeaveNow (storage.files disk) contents)
      (old new : Journal) (disk : D) (bytes : List ℕ) (blanks : ℕ) (error : E) → Appends {T = T} storage old new disk disk bytes blanks (Err error)
  nothing_appended at_now old new disk bytes blanks error = record {
    added = λ start payloads added at spelled. tt;
    file = tt;
    other = λ other differs. refl;
    any_moment = λ start payloads added content is at spelled. begun storage.moment storage.left_at disk _ (λ contents left.
        let now = (at_now disk contents).0 left in
        let here = settled_only content (contents old.side) (subst (λ (f : File). MayLeave f.durable (contents old.side)) is (now old.side)) in
        (crash_now start content payloads added at.stands (contents old.side) here, λ other differs. now other));
    other_moments = begun storage.moment storage.left_at disk _ (λ contents left. let now = (at_now disk contents).0 left in λ other differs. now other);
  }

  -- the result of one call as that of another
  pub failed_as : {S T E F : Type 0} (old new : Journal) (disk later : D) (bytes others : List ℕ) (blanks : ℕ) (one : E) (two : F) → others ≡ bytes
      → Appends {T = S} storage old new disk later others blanks (Err one) → Appends {T = T} storage old new disk later bytes blanks (Err two)
  failed_as old new disk later bytes others blanks one two same appends = record {
    added = λ start payloads added at spelled. tt;
    file = tt;
    other = appends.other;
    any_moment = λ start payloads added content is at spelled. appends.any_moment start payloads added content is at (same ∙ spelled);
    other_moments = appends.other_moments;
  }

  pub went_as : {S T E F : Type 0} (old new : Journal) (disk later : D) (bytes others : List ℕ) (blanks : ℕ) (one : S) (two : T) → others ≡ bytes
      → Appends {E = E} storage old new disk later others blanks (Ok one) → Appends {E = F} storage old new disk later bytes blanks (Ok two)
  went_as old new disk later bytes others blanks one two same appends = record {
    added = λ start payloads added at spelled. appends.added start payloads added at (same ∙ spelled);
    file = appends.file ∙ ap (λ (l : List ℕ). at_rest (overwritten (storage.files disk old.side).content old.end (l ++ 0 ∷ replicate blanks 0))) same;
    other = appends.other;
    any_moment = λ start payloads added content is at spelled. appends.any_moment start payloads added content is at (same ∙ spelled);
    other_moments = appends.other_moments;
  }

  -- the same bytes
  these_bytes : {T E : Type 0} (side : Side) (at : ℕ) (bytes others : List ℕ) (disk later : D) (result : Result T E) → others ≡ bytes → WritesSynced storage side at others disk later result → WritesSynced storage side at bytes disk later result
  these_bytes side at bytes others disk later result same writes = subst (λ (l : List ℕ). WritesSynced storage side at l disk later result) same writes

  -- ---- the two writes

  module _ (old new : Journal) (disk mid later : D) (blanks : ℕ) where
    abbrev behind : List ℕ → List ℕ
    behind without = without ++ 0 ∷ replicate blanks 0

    -- the first failed
    pub first_failed : {S T E F : Type 0} (one : E) (two : F) (bytes written : List ℕ) → WritesSynced {T = S} storage old.side (old.end + 1) written disk mid (Err one)
        → Appends {T = T} storage old new disk mid bytes blanks (Err two)
    first_failed one two bytes written writes = record {
      added = λ start payloads added at spelled. tt;
      file = tt;
      other = writes.other;
      any_moment = λ start payloads added content is at spelled. weakened storage.moment storage.left_at disk mid _ _ (writes.any_moment content is)
          (λ contents leaves. (crash_behind start content payloads old.end at.stands at.end added _ (contents old.side) leaves.0, leaves.1));
      other_moments = weakened storage.moment storage.left_at disk mid _ _ writes.touches (λ contents leaves. leaves.1);
    }

    module _ {S E : Type 0} (done : S) (first : ℕ) (without : List ℕ) (less : length (first ∷ without) < 2 ^ 32)
        (writes : WritesSynced {T = S} {E = E} storage old.side (old.end + 1) (behind without) disk mid (Ok done)) where
      module _ {T F : Type 0} (result : Result T F) (opening : WritesSynced storage old.side old.end (first ∷ []) mid later result) where
        other_stays : OtherStays old.side (storage.files disk) (storage.files later)
        other_stays other differs = opening.other other differs ∙ writes.other other differs

        each_moment : (start : ℕ) (payloads added : List (List ℕ)) (content : List ℕ) → storage.files disk old.side ≡ at_rest content → IsAt old start content payloads → first ∷ without ≡ records added
            → Leaves storage disk later (λ contents. BeforeOrAfter start content payloads added (contents old.side) × OtherMayBe old.side (storage.files disk) contents)
        each_moment start payloads added content is at spelled =
            let between : storage.files mid old.side ≡ at_rest (overwritten content (old.end + 1) (behind without)) = writes.ok ∙ ap (λ (f : File). at_rest (overwritten f.content (old.end + 1) (behind without))) is in
            moments_of_both storage.moment storage.left_at disk mid later old.side (storage.files disk) (storage.files mid) writes.other start content payloads added without (replicate blanks 0) old.end _ at.stands at.end
            (short_within added (subst (λ (l : List ℕ). length l < 2 ^ 32) spelled less)) (sym spelled ∙ ap (λ (n : ℕ). n ∷ without) (opens added first without spelled))
            (writes.any_moment content is) (opening.any_moment _ between)

        each_other_moment : Leaves storage disk later (OtherMayBe old.side (storage.files disk))
        each_other_moment =
            other_moments storage.moment storage.left_at disk mid later old.side (storage.files disk) (storage.files mid) writes.other _
            (weakened storage.moment storage.left_at disk mid _ _ writes.touches (λ contents leaves. leaves.1)) opening.touches

      failed : {T F G H : Type 0} (one : G) (two : H) (opening : WritesSynced {T = F} storage old.side old.end (first ∷ []) mid later (Err one)) → Appends {T = T} storage old new disk later (first ∷ without) blanks (Err two)
      failed one two opening = record {
        added = λ start payloads added at spelled. tt;
        file = tt;
        other = other_stays (Err one) opening;
        any_moment = each_moment (Err one) opening;
        other_moments = each_other_moment (Err one) opening;
      }

      went : {F G T H : Type 0} (opened : F) (result : T) (opening : WritesSynced {E = G} storage old.side old.end (first ∷ []) mid later (Ok opened)) → old.end < length (storage.files disk old.side).content
          → new.end ≡ old.end + length (first ∷ without) → Appends {E = H} storage old new disk later (first ∷ without) blanks (Ok result)
      went opened result opening within moved = record {
        added = λ start payloads added at spelled.
            let short = short_within added (subst (λ (l : List ℕ). length l < 2 ^ 32) spelled less) in
            let one : first ≡ 1 = opens added first without spelled in
            record {
              stands = subst (λ (l : List ℕ). StandsFor (drop start l) (payloads ++ added))
                  (sym (file_is ∙ ap (λ (n : ℕ). overwritten (overwritten content (old.end + 1) (behind without)) old.end (n ∷ [])) one))
                  (appended start content payloads old.end at.stands at.end added short without (sym spelled ∙ ap (λ (n : ℕ). n ∷ without) one) (replicate blanks 0));
              end = moved ∙ ap (λ (l : List ℕ). old.end + length l) spelled ∙ end_after start content payloads old.end at.stands at.end added;
            };
        file = opening.ok ∙ ap (λ (f : File). at_rest (overwritten f.content old.end (first ∷ []))) writes.ok ∙ ap at_rest (written_in_two content old.end first (behind without) within);
        other = other_stays (Ok opened) opening;
        any_moment = each_moment (Ok opened) opening;
        other_moments = each_other_moment (Ok opened) opening;
      }
        where
          content : List ℕ
          content = (storage.files disk old.side).content

          file_is : (storage.files later old.side).content ≡ overwritten (overwritten content (old.end + 1) (behind without)) old.end (first ∷ [])
          file_is = ap (λ (f : File). f.content) (opening.ok ∙ ap (λ (f : File). at_rest (overwritten f.content old.end (first ∷ []))) writes.ok)

    -- the first went well, and the second failed
    pub second_failed : {S E T F G H : Type 0} (done : S) (one : G) (two : H) (bytes written opened : List ℕ) → 1 ≤ length bytes → length bytes < 2 ^ 32 → written ≡ drop 1 (behind bytes) → opened ≡ take 1 (behind bytes)
        → WritesSynced {T = S} {E = E} storage old.side (old.end + 1) written disk mid (Ok done) → WritesSynced {T = F} storage old.side old.end opened mid later (Err one)
        → Appends {T = T} storage old new disk later bytes blanks (Err two)
    second_failed done one two [] written opened some less is is_2 writes opening = absurd (omega (arith, some))
    second_failed done one two (first ∷ without) written opened some less is is_2 writes opening =
        failed done first without less (these_bytes old.side (old.end + 1) _ _ disk mid _ is writes) one two
        (these_bytes old.side old.end _ _ mid later _ is_2 opening)

    -- both went well
    pub both_went : {S E F G T H : Type 0} (done : S) (did : F) (result : T) (bytes written opened : List ℕ) → 1 ≤ length bytes → length bytes < 2 ^ 32 → written ≡ drop 1 (behind bytes) → opened ≡ take 1 (behind bytes)
        → WritesSynced {T = S} {E = E} storage old.side (old.end + 1) written disk mid (Ok done) → WritesSynced {E = G} storage old.side old.end opened mid later (Ok did)
        → old.end < length (storage.files disk old.side).content → new.end ≡ old.end + length bytes → Appends {E = H} storage old new disk later bytes blanks (Ok result)
    both_went done did result [] written opened some less is is_2 writes opening = absurd (omega (arith, some))
    both_went done did result (first ∷ without) written opened some less is is_2 writes opening =
        went done first without less (these_bytes old.side (old.end + 1) _ _ disk mid _ is writes) did result
        (these_bytes old.side old.end _ _ mid later _ is_2 opening)
