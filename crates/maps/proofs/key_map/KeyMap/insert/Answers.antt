use Rattle.std.proofs.Common.{◌∙◌, ap, sym, Some, arith}
use Rattle.std.specs.FinMap.{get, get-from_entries, insert, put}
use Rattle.terms.specs.Key.{key_cmp}
use Rattle.maps.specs.Insertion.{IsRefused}
use Rattle.maps.specs.Paged.{all_of}
use Rattle.maps.specs.PlaceOrder.{keys_total}
use Rattle.maps.proofs.Refused.{refused_for_memory}
use Rattle.maps.proofs.Written.{put_is_insert}
use Rattle.maps.proofs.key_map.KeyMap.insert.Goals as goal

pub returns-in_err-make_room-in-Gap-clause-refused : goal.returns-in_err-make_room-in-Gap-clause-refused
returns-in_err-make_room-in-Gap-clause-refused g c =
    refused_for_memory c.from_residual.result (IsRefused (get c.args.self.now.items c.args.key) c.args.self.now.room) c.from_residual.ensures.1
    (ap (λ s. get s.items c.args.key) (sym c.self.view_is) ∙ get-from_entries keys_total (all_of c.self.inside.pages.pages) c.args.key ∙ c.in-Gap.ensures.absent, omega (arith, c.in_err-make_room-in-Gap.ensures.refused.1, ap (λ s. s.room) c.self.view_is))

pub returns-in_err-make_room-in-Behind-clause-refused : goal.returns-in_err-make_room-in-Behind-clause-refused
returns-in_err-make_room-in-Behind-clause-refused g c =
    refused_for_memory c.from_residual-in_err-make_room-in-Behind.result (IsRefused (get c.args.self.now.items c.args.key) c.args.self.now.room) c.from_residual-in_err-make_room-in-Behind.ensures.1
    (ap (λ s. get s.items c.args.key) (sym c.self.view_is) ∙ get-from_entries keys_total (all_of c.self.inside.pages.pages) c.args.key ∙ c.in-Behind.ensures.absent, omega (arith, c.in_err-make_room-in-Behind.ensures.refused.1, ap (λ s. s.room) c.self.view_is))

pub returns-in-At-clause-refused : goal.returns-in-At-clause-refused
returns-in-At-clause-refused g c =
    sym (ap Some (c.value_at.ensures (c.args.key, c.value_at.result)) ∙ sym (c.in-At.ensures.found (c.args.key, c.value_at.result)) ∙ sym (get-from_entries keys_total (all_of c.self.inside.pages.pages) c.args.key) ∙ ap (λ s. get s.items c.args.key) c.self.view_is)

pub returns-in_ok-make_room-in-Gap-clause-ok : goal.returns-in_ok-make_room-in-Gap-clause-ok
returns-in_ok-make_room-in-Gap-clause-ok g c =
    let pages = c.in_ok-make_room-in-Gap.ensures.pages in
    record {
      absent = ap (λ s. get s.items c.args.key) (sym c.self.view_is) ∙ get-from_entries keys_total (all_of c.self.inside.pages.pages) c.args.key ∙ c.in-Gap.ensures.absent;
      items = put_is_insert (all_of c.self.inside.pages.pages) (all_of c.add.new.self.pages) c.args.key c.args.value (c.add.ensures.entries ∙ ap (λ ps. put key_cmp c.args.key c.args.value (all_of ps)) pages) ∙ ap (λ s. insert s.items c.args.key c.args.value) c.self.view_is;
      lower = λ some.
          let room = ap (λ s. s.room) c.self.view_is in
          let same = ap (λ s. s.room) (c.in_ok-make_room-in-Gap.ensures.enough (omega (arith, some, room))) in
          omega (arith, some, room, same, c.add.ensures.room);
    }

pub returns-in_ok-make_room-in-Behind-clause-ok : goal.returns-in_ok-make_room-in-Behind-clause-ok
returns-in_ok-make_room-in-Behind-clause-ok g c =
    let pages = c.in_ok-make_room-in-Behind.ensures.pages in
    record {
      absent = ap (λ s. get s.items c.args.key) (sym c.self.view_is) ∙ get-from_entries keys_total (all_of c.self.inside.pages.pages) c.args.key ∙ c.in-Behind.ensures.absent;
      items = put_is_insert (all_of c.self.inside.pages.pages) (all_of c.add_behind.new.self.pages) c.args.key c.args.value (c.add_behind.ensures.entries ∙ ap (λ ps. put key_cmp c.args.key c.args.value (all_of ps)) pages) ∙ ap (λ s. insert s.items c.args.key c.args.value) c.self.view_is;
      lower = λ some.
          let room = ap (λ s. s.room) c.self.view_is in
          let same = ap (λ s. s.room) (c.in_ok-make_room-in-Behind.ensures.enough (omega (arith, some, room))) in
          omega (arith, some, room, same, c.add_behind.ensures.room);
    }
