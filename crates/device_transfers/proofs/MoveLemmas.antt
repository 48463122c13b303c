-- From the entry of a header to its moves.
use Rattle.std.proofs.Common.{ℕ, zero, suc, ◌≡◌, Bool, true, false, cond, List, [], ◌∷◌, Option, Some, None, map, find, refl, sym, ◌∙◌, subst, arith, bit_and, All, true≢false}
use Rattle.std.specs.List.Sorted.{IsStrictlySortedBy}
use Rattle.std.proofs.lemmas.Bool.Decides.{Decides-eqb}
use Rattle.std.proofs.lemmas.List.Elements.{All-head, All-tail}
use Rattle.hdr_bits.specs.declared.cube.Cube.{Cube}
use Rattle.hdr_bits.specs.declared.header.Header.{Header}
use Rattle.hdr_bits.specs.HeaderBits.{number, IsHeader}
use Rattle.hdr_bits.specs.CubeBits.{IsIn, is_in}
use Rattle.hdr_bits.proofs.Masks.{in_from_mask}
use Rattle.cube_alg.proofs.ValueLemmas.{test_in}
use Rattle.net_types.specs.declared.network.Move.{Move}
use Rattle.net_types.specs.declared.network.Place.{Place}
use Rattle.net_types.specs.World.{World}
use Rattle.net_types.specs.Moves.{moves}
use Rattle.net_types.specs.Order.{in_order}
use Rattle.net_types.proofs.Ordered.{in_order_sorted, in_order_has, has_from_Contains, Contains_from_has}
use Rattle.transfer_rel.specs.CubeMoves.{SameSet, move_of}
use Rattle.device_transfers.specs.declared.transfer.TransferEntry.{TransferEntry}
use Rattle.device_transfers.specs.MoveOrder.{move_cmp}
use Rattle.device_transfers.specs.Transfers.{IsEntry, Hold, HoldEveryHeader}
use Rattle.device_transfers.proofs.OrderLemmas.{move_total, move_exact}

abbrev pub entry_of : List TransferEntry → ℕ → Option TransferEntry
entry_of es n = find (λ e. is_in e.cube n) es

member : (c : Cube) (n : ℕ) → is_in c n ≡ true → IsIn c n
member c n e = in_from_mask c n ((Decides-eqb (bit_and n c.fixed) c.bits).0 e)

-- the entry that is found has the header, and what all entries have
found : (P : TransferEntry → Type 0) (n : ℕ) (es : List TransferEntry) (e : TransferEntry) → entry_of es n ≡ Some e → All P es → P e × IsIn e.cube n
found P n [] e q all = absurd cc
found P n (x ∷ xs) e q all = by_test (is_in x.cube n) refl q (λ s. found P n xs e s (All-tail P x xs all))
  where
    by_test : (b : Bool) → is_in x.cube n ≡ b → cond b (Some x) (entry_of xs n) ≡ Some e → (entry_of xs n ≡ Some e → P e × IsIn e.cube n) → P e × IsIn e.cube n
    by_test true t s later = let same : x ≡ e = cc in subst (λ (y : TransferEntry). P y × IsIn y.cube n) same (All-head P x xs all, member x.cube n t)
    by_test false t s later = later s

-- some entry is found
not_missed : (n : ℕ) (es : List TransferEntry) → entry_of es n ≡ None → Hold es n → ⊥
not_missed n [] q h = omega (arith, h.2)
not_missed n (x ∷ xs) q h = by_test (is_in x.cube n) refl q h (not_missed n xs)
  where
    by_test : (b : Bool) → is_in x.cube n ≡ b → cond b (Some x) (entry_of xs n) ≡ None → Hold (x ∷ xs) n → (entry_of xs n ≡ None → Hold xs n → ⊥) → ⊥
    by_test true t s (k, y, l, e, i) later = absurd cc
    by_test false t s (zero, y, l, e, i) later = (let same : x ≡ y = cc in true≢false (sym (test_in x.cube n (subst (λ (z : TransferEntry). IsIn z.cube n) (sym same) i)) ∙ t))
    by_test false t s (suc k, y, l, e, i) later = later s (k, y, omega (arith, l), e, i)

-- a list in order has what the list has
in_order_same : (ms : List Move) → SameSet ms (in_order move_cmp ms)
in_order_same ms x = (
  λ c. Contains_from_has move_cmp move_total move_exact x (in_order move_cmp ms) (in_order_has move_cmp move_total move_exact x ms ∙ has_from_Contains move_cmp move_total move_exact x ms c),
  λ c. Contains_from_has move_cmp move_total move_exact x ms (sym (in_order_has move_cmp move_total move_exact x ms) ∙ has_from_Contains move_cmp move_total move_exact x (in_order move_cmp ms) c),
)

pub sorted_moves : (ms : List Move) → IsStrictlySortedBy move_cmp (in_order move_cmp ms)
sorted_moves ms = in_order_sorted move_cmp move_total move_exact ms

pub no_moves : IsStrictlySortedBy move_cmp []
unfolding IsStrictlySortedBy
no_moves = tt

module _ (w : World) (p : Place) (h : Header) (v : IsHeader h) (es : List TransferEntry) where
  pub moves_found : (e : TransferEntry) → entry_of es (number h) ≡ Some e → All (IsEntry w p) es → SameSet (moves w p h) (in_order move_cmp (map (move_of h) e.moves))
  moves_found e q each x =
      let f = found (IsEntry w p) (number h) es e q each in
      let s = f.0.moves h v f.1 x in
      let t = in_order_same (map (move_of h) e.moves) x in
      (λ c. t.0 (s.0 c), λ c. s.1 (t.1 c))

  pub moves_missed : (ms : List Move) → entry_of es (number h) ≡ None → HoldEveryHeader es → SameSet (moves w p h) ms
  moves_missed ms q holds = absurd (not_missed (number h) es q (holds h v))
