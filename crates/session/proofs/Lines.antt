-- One more line: in a list, and on an output.
use Rattle.std.proofs.Common.{◌≡◌, ◌≢◌, ◌∙◌, ℕ, zero, suc, arith, ◌+◌, ◌<◌, true, false, List, [], ◌∷◌, ◌++◌, ap, refl, sym, subst, length, get_or, take, drop, append-nil, Option, Some, None, is_some, Result, Ok, Err, OnOk}
use Rattle.std.specs.List.{flat_map}
use Rattle.std.specs.Io.KnownBytes.{Appends}
use Rattle.std.specs.Result.{is_err}
use Rattle.std.proofs.KnownBytes.{Appends-trans}
use Rattle.std.proofs.Math.Seq.{take-suc}
use Rattle.std.proofs.lemmas.Grind.{flat_map-append}
use Rattle.graph.specs.Graph.{Graph}
use Rattle.session.specs.declared.reply.Reply.{Reply}
use Rattle.session.specs.Replies.{reply_text}
use Rattle.session.specs.Session.{replies_text}

add_one : (n : ℕ) → n + 1 ≡ suc n
add_one n = omega arith

-- what is written for the elements of a list up to a place, and then for the one there
pub one_more : {X : Type 0} (text : X → List ℕ) (list : List X) (place : ℕ) (none : X) → place < length list →
    flat_map text (take (place + 1) list) ≡ flat_map text (take place list) ++ text (get_or list place none)
one_more text list place none within =
    ap (λ n. flat_map text (take n list)) (add_one place) ∙ ap (flat_map text) (take-suc list place none within) ∙ flat_map-append text (take place list) (get_or list place none ∷ []) ∙ ap (λ more. flat_map text (take place list) ++ more) (append-nil _)

-- a list up to a place, with the element there and without it, and what comes after
pub up_to : {X : Type 0} (list : List X) (place : ℕ) (one : X) → place < length list → one ≡ get_or list place one → take (place + 1) list ≡ take place list ++ one ∷ []
up_to list place one within is = ap (λ n. take n list) (add_one place) ∙ take-suc list place one within ∙ ap (λ x. take place list ++ x ∷ []) (sym is)

split : {X : Type 0} (list : List X) (place : ℕ) (none : X) → place < length list → list ≡ take place list ++ get_or list place none ∷ drop (suc place) list
split [] place none within = absurd (omega (arith, within))
split (first ∷ rest) zero none within = refl
split (first ∷ rest) (suc place) none within = ap (λ more. first ∷ more) (split rest place none (omega (arith, within)))

pub split_at : {X : Type 0} (list : List X) (place : ℕ) (one : X) → place < length list → one ≡ get_or list place one → list ≡ take place list ++ one ∷ drop (suc place) list
split_at list place one within is = split list place one within ∙ ap (λ x. take place list ++ x ∷ drop (suc place) list) (sym is)

-- one more reply
pub written_more : (old between new : Option (List ℕ)) (g named : Graph) (replies : List Reply) (reply : Reply) → named ≡ g →
    Appends old between (replies_text g replies) → Appends between new (reply_text named reply) → Appends old new (replies_text g (replies ++ reply ∷ []))
written_more old between new g named replies reply is before here =
    subst (Appends old new) (sym (flat_map-append (reply_text g) replies (reply ∷ []) ∙ ap (λ more. replies_text g replies ++ more) (append-nil (reply_text g reply))))
    (Appends-trans old between new (replies_text g replies) (reply_text g reply) before (subst (λ h. Appends between new (reply_text h reply)) is here))

pub appends_nothing : (known : Option (List ℕ)) → Appends known known []
appends_nothing None = tt
appends_nothing (Some bytes) = sym (append-nil bytes)

-- ---- what was asked

pub where_ok : {T E P : Type 0} (r : Result T E) → OnOk r P → false ≡ is_err r → P
where_ok (Ok done) holds ok = holds
where_ok (Err error) holds ok = absurd (cc)

pub not_none : {X : Type 0} (o : Option X) → true ≡ is_some o → o ≢ None
not_none None some is = absurd (cc)
not_none (Some x) some is = absurd (cc)

pub none : {X : Type 0} (o : Option X) → false ≡ is_some o → o ≡ None
none None is = refl
none (Some x) is = absurd (cc)
