use Rattle.std.proofs.Common.{ap, sym, ◌∙◌, ◌++◌}
use Rattle.link_sends.proofs.AddressLemmas.{not_held, listed_left, listed_right}
use Rattle.link_sends.proofs.by_address.held.Goals as goal

pub returns-clause-live : goal.returns-clause-live
returns-clause-live c a absent =
    not_held a c.args.live.now.ends.entries (λ k. listed_left a _ _ _ (c.in_ok-extend_from_slice-2.ensures.items ∙ ap (λ xs. xs ++ c.as_slice-2.result.now) (c.in_ok-extend_from_slice.ensures.items ∙ ap (λ xs. xs ++ c.as_slice.result.now) c.new-addresses.ensures.items ∙ (c.as_slice.ensures ∙ c.keys.ensures.rest))) absent k)

pub returns-clause-silent : goal.returns-clause-silent
returns-clause-silent c a absent =
    not_held a c.args.silent.now.ends.entries (λ k. listed_right a _ _ _ (c.in_ok-extend_from_slice-2.ensures.items ∙ ap (λ xs. c.extend_from_slice.new.self.items ++ xs) (c.as_slice-2.ensures ∙ c.keys-2.ensures.rest)) absent k)
