-- The field of bits keeps the laws: each is a test at the two codes, or at pairs or triples of them.
use Rattle.std.specs.Prelude.{◌≡◌, bit_and, bit_xor, nat_eq, nat_lt}
use Rattle.std.proofs.Common.{arith, eqb→eq, ltb→lt, lit≤}
use Rattle.std.proofs.lemmas.Nat.{xor_comm, and_comm}
use Rattle.std.specs.Int.Bits.{xor_assoc, xor_zero_r}
use Rattle.field.specs.Codes.{OnCodes}
use Rattle.field.specs.OfBits.{bits}
use Rattle.field.specs.Upto.{upto-at, upto_at2, upto_at3}

pub bits_laws : OnCodes bits
bits_laws = record {
  two = lit≤ tt;
  most = lit≤ tt;
  add_below = λ a b ha hb. ltb→lt _ _ (upto_at2 2 2 (λ a b. nat_lt (bit_xor a b) 2) tt a b ha hb);
  sub_below = λ a b ha hb. ltb→lt _ _ (upto_at2 2 2 (λ a b. nat_lt (bit_xor a b) 2) tt a b ha hb);
  mul_below = λ a b ha hb. ltb→lt _ _ (upto_at2 2 2 (λ a b. nat_lt (bit_and a b) 2) tt a b ha hb);
  inv_below = λ a p h. h;
  add_comm = λ a b ha hb. xor_comm a b;
  add_assoc = λ a b c ha hb hc. xor_assoc a b c;
  mul_comm = λ a b ha hb. and_comm a b;
  mul_assoc = λ a b c ha hb hc. eqb→eq _ _ (upto_at3 2 2 2 (λ a b c. nat_eq (bit_and (bit_and a b) c) (bit_and a (bit_and b c))) tt a b c ha hb hc);
  mul_add = λ a b c ha hb hc. eqb→eq _ _ (upto_at3 2 2 2 (λ a b c. nat_eq (bit_and a (bit_xor b c)) (bit_xor (bit_and a b) (bit_and a c))) tt a b c ha hb hc);
  add_zero = λ a h. xor_zero_r a;
  mul_one = λ a h. eqb→eq _ _ (upto-at 2 (λ a. nat_eq (bit_and a 1) a) tt a h);
  sub_add = λ a b ha hb. eqb→eq _ _ (upto_at2 2 2 (λ a b. nat_eq (bit_xor (bit_xor a b) b) a) tt a b ha hb);
  mul_inv = λ a p h. let e : a ≡ 1 = omega arith in rw e;
}
