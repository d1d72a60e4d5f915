use Rattle.std.proofs.Common.{◌≡◌, ◌++◌, ◌∷◌, [], inl, inr, arith, ap, ◌∙◌}
use Rattle.std.proofs.lemmas.Result.{err_from_is_err_and}
use Rattle.terms.specs.declared.event.Event.{Event}
use Rattle.codec.specs.Reading.{go_on, always}
use Rattle.codec.proofs.CommitLaws.{alone_read}
use Rattle.codec.proofs.decode.read_payload.Goals as goal

pub returns-in_err-read_kind : goal.returns-in_err-read_kind
returns-in_err-read_kind c =
    let p = err_from_is_err_and c.from_residual-in_err-read_kind.result c.from_residual-in_err-read_kind.ensures.1 in
    rw (p.1, p.2) (elim c.in_err-read_kind.ensures [
      | inl refused ↦ inl (cc)
      | inr read ↦ inr (alone_read c.args.most c.in_ok-kind.kind c.args.reader.now.rest.now c.byte.new.self.rest.now _ c.in_ok-kind.ensures (omega arith) (ap (λ r. go_on r (λ (x : Event). always (x ∷ []))) read))
    ])

pub returns : goal.returns
returns c =
    let pushed : c.push.new.self.items ≡ c.in_ok-read_kind.field-0 ∷ [] = c.in_ok-push.ensures.items ∙ ap (λ events. events ++ c.in_ok-read_kind.field-0 ∷ []) c.requires.empty in
    elim c.in_ok-read_kind.ensures [
      | inl refused ↦ absurd (cc)
      | inr read ↦ rw pushed (inr (alone_read c.args.most c.in_ok-kind.kind c.args.reader.now.rest.now c.byte.new.self.rest.now _ c.in_ok-kind.ensures (omega arith) (ap (λ r. go_on r (λ (x : Event). always (x ∷ []))) read)))
    ]
