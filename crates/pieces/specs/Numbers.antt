-- The promise of this door follows from a call's own, and decides its number and every area.
use Rattle.std.specs.Prelude.{◌≡◌, ℕ}
use Rattle.std.proofs.Common.{sym, ap, ◌∙◌}
use Rattle.rules.specs.Calls.{Call, Areas, Reply, Outcome, outcome, Promise}
use Rattle.pieces.specs.Packed.{packed, Packs}

-- a call that keeps its promise, and whose reply is packed, keeps the promise of this door
pub packs : {c : Call} {a after : Areas} {reply : Reply} {r : ℕ} → Promise c a (outcome reply after) → r ≡ packed reply → Packs c a r after
packs q e = record { answer = e ∙ ap (λ (o : Outcome). packed o.reply) q.exact; areas = ap (λ (o : Outcome). o.areas) q.exact }

-- promises decide: two numbers, with all areas, that both meet a call's promise are the same
pub decides : {c : Call} {a after after' : Areas} {r r' : ℕ} → Packs c a r after → Packs c a r' after' → (r ≡ r') × (after ≡ after')
decides p q = (p.answer ∙ sym q.answer, p.areas ∙ sym q.areas)
