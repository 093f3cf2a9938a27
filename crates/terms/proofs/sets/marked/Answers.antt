use Rattle.std.proofs.Common.{◌≡◌, ℕ, zero, suc, ◌+◌, ◌*◌, ◌/◌, ◌%◌, ◌^◌, set, replicate, sym, refl, ap, ◌∙◌, pow-suc, arith}
use Rattle.std.proofs.lemmas.Nat.{one_shl, pow-add}
use Rattle.terms.specs.Sets.{number_of}
use Rattle.terms.proofs.Bytes.{number_marked}
use Rattle.terms.proofs.sets.marked.Goals as goal

eight_bits : (q : ℕ) → 256 ^ q ≡ 2 ^ (8 * q)
eight_bits zero = refl
eight_bits (suc q) = pow-suc 256 q ∙ ap (λ (x : ℕ). x * 256) (eight_bits q) ∙ sym (ap (λ (x : ℕ). 2 ^ x) more ∙ pow-add 2 (8 * q) 8)
  where
    more : 8 * suc q ≡ 8 * q + 8
    more = omega arith

-- a wire's bit in its byte, as a number
placed : (w : ℕ) → 2 ^ (w % 8) * 256 ^ (w / 8) ≡ 2 ^ w
placed w =
    ap (λ (x : ℕ). 2 ^ (w % 8) * x) (eight_bits (w / 8)) ∙ sym (pow-add 2 (w % 8) (8 * (w / 8))) ∙ ap (λ (x : ℕ). 2 ^ x) whole
  where
    whole : w % 8 + 8 * (w / 8) ≡ w
    whole = omega arith

pub returns-clause-number : goal.returns-clause-number
returns-clause-number c =
    let w = c.args.wire in
    let e = ap (set (replicate 16 0) (w / 8)) (one_shl (w % 8) 8 (omega arith)) in
    ap number_of e ∙ number_marked 16 (w / 8) (2 ^ (w % 8)) (omega arith) ∙ placed w
