-- From answers to the first question that fails, and from the networks before a step to those after it.
use Rattle.std.proofs.Common.{arith, ℕ, zero, suc, ◌≡◌, ◌<◌, ◌+◌, List, [], ◌∷◌, ◌++◌, All, take, map, length, get_or, refl, sym, ap, subst, ◌∙◌}
use Rattle.std.specs.List.{AllZip}
use Rattle.std.proofs.lemmas.List.{take_more}
use Rattle.std.proofs.lemmas.List.Elements.{All-nil, All-cons, All-head, All-tail}
use Rattle.hdr_bits.specs.declared.header.Header.{Header}
use Rattle.net_types.specs.declared.network.Links.{Links}
use Rattle.net_types.specs.declared.network.NetDevice.{NetDevice}
use Rattle.net_types.specs.declared.network.Network.{Network}
use Rattle.net_types.specs.declared.question.Answer.{Answer}
use Rattle.net_types.specs.declared.question.Answer.TheVariants as answer
use Rattle.net_types.specs.declared.question.Question.{Question}
use Rattle.net_types.specs.Questions.{IsAnswer}
use Rattle.net_types.specs.World.{World}
use Rattle.rollout.specs.Steps.{AllHold, FirstFails, FirstStepFails, network_after, networks, world}

-- ---- answers
abbrev pub IsHolds : Answer → Type 0
IsHolds a = a ≡ answer.Holds

abbrev Meets : World → ℕ → Question → Type 0
Meets w t q = IsAnswer w t q answer.Holds

pub all_hold : (w : World) (t : ℕ) (questions : List Question) (answers : List Answer) → All IsHolds answers → AllZip (IsAnswer w t) questions answers → AllHold t questions w
all_hold w t [] answers holds are = All-nil (Meets w t)
all_hold w t (q ∷ questions) [] holds are = absurd are
all_hold w t (q ∷ questions) (a ∷ answers) holds are =
    All-cons (Meets w t) q questions (subst (IsAnswer w t q) (All-head IsHolds a answers holds) are.0) (all_hold w t questions answers (All-tail IsHolds a answers holds) are.1)

pub first_fails : (w : World) (t : ℕ) (questions : List Question) (answers : List Answer) (i : ℕ) (d : Answer) (h : Header) → i < length answers → get_or answers i d ≡ answer.Fails h → All IsHolds (take i answers) → AllZip (IsAnswer w t) questions answers → FirstFails t questions (i + 1) h w
first_fails w t questions [] i d h within is holds are = absurd (omega (arith, within))
first_fails w t [] (a ∷ answers) i d h within is holds are = absurd are
first_fails w t (q ∷ questions) (a ∷ answers) zero d h within is holds are =
    record { before = []; question = q; after = questions; are = refl; hold = All-nil (Meets w t); counted = refl; fails = subst (IsAnswer w t q) is are.0 }
first_fails w t (q ∷ questions) (a ∷ answers) (suc i) d h within is holds are =
    let rest = first_fails w t questions answers i d h (omega (arith, within)) is (All-tail IsHolds a (take i answers) holds) are.1 in
    record {
      before = q ∷ rest.before;
      question = rest.question;
      after = rest.after;
      are = ap (λ qs. q ∷ qs) rest.are;
      hold = All-cons (Meets w t) q rest.before (subst (IsAnswer w t q) (All-head IsHolds a (take i answers) holds) are.0) rest.hold;
      counted = let e = rest.counted in omega (arith, e);
      fails = rest.fails;
    }

-- ---- networks
-- the one after all of the changes
abbrev pub network_after_all : Network → List NetDevice → Network
network_after_all base [] = base
network_after_all base (change ∷ changes) = network_after_all (network_after change base) changes

pub after_one_more : (base : Network) (changes : List NetDevice) (change : NetDevice) → network_after_all base (changes ++ change ∷ []) ≡ network_after change (network_after_all base changes)
after_one_more base [] change = refl
after_one_more base (c ∷ changes) change = after_one_more (network_after c base) changes change

pub networks_one_more : (base : Network) (changes : List NetDevice) (change : NetDevice) → networks base (changes ++ change ∷ []) ≡ networks base changes ++ network_after_all base (changes ++ change ∷ []) ∷ []
networks_one_more base [] change = refl
networks_one_more base (c ∷ changes) change = ap (λ ns. base ∷ ns) (networks_one_more (network_after c base) changes change)

abbrev rest_of : Network → List NetDevice → List Network
rest_of base [] = []
rest_of base (change ∷ changes) = networks (network_after change base) changes

begins : (base : Network) (changes : List NetDevice) → networks base changes ≡ base ∷ rest_of base changes
begins base [] = refl
begins base (change ∷ changes) = refl

pub first_network_fails : (links : Links) (t : ℕ) (questions : List Question) (base : Network) (changes : List NetDevice) (number : ℕ) (h : Header)
    → FirstFails t questions number h (world links base)
    → FirstStepFails t questions (map (world links) (networks base changes)) 0 number h
first_network_fails links t questions base changes number h fails =
    record {
      before = [];
      world = world links base;
      after = map (world links) (rest_of base changes);
      are = ap (map (world links)) (begins base changes);
      hold = All-nil (AllHold t questions);
      counted = refl;
      fails = fails;
    }

pub first_step_fails : (links : Links) (t : ℕ) (questions : List Question) (base : Network) (changes : List NetDevice) (i : ℕ) (d : NetDevice) (number : ℕ) (h : Header)
    → i < length changes
    → All (AllHold t questions) (map (world links) (networks base (take i changes)))
    → FirstFails t questions number h (world links (network_after (get_or changes i d) (network_after_all base (take i changes))))
    → FirstStepFails t questions (map (world links) (networks base changes)) (i + 1) number h
first_step_fails links t questions base [] i d number h within hold fails = absurd (omega (arith, within))
first_step_fails links t questions base (c ∷ changes) zero d number h within hold fails =
    record {
      before = world links base ∷ [];
      world = world links (network_after c base);
      after = map (world links) (rest_of (network_after c base) changes);
      are = ap (λ ns. world links base ∷ map (world links) ns) (begins (network_after c base) changes);
      hold = hold;
      counted = refl;
      fails = fails;
    }
first_step_fails links t questions base (c ∷ changes) (suc i) d number h within hold fails =
    let later = map (world links) (networks (network_after c base) (take i changes)) in
    let rest = first_step_fails links t questions (network_after c base) changes i d number h (omega (arith, within)) (All-tail (AllHold t questions) (world links base) later hold) fails in
    record {
      before = world links base ∷ rest.before;
      world = rest.world;
      after = rest.after;
      are = ap (λ ws. world links base ∷ ws) rest.are;
      hold = All-cons (AllHold t questions) (world links base) rest.before (All-head (AllHold t questions) (world links base) later hold) rest.hold;
      counted = let e = rest.counted in omega (arith, e);
      fails = rest.fails;
    }

push_all : (links : Links) (t : ℕ) (questions : List Question) (ns : List Network) (n : Network) → All (AllHold t questions) (map (world links) ns) → AllHold t questions (world links n) → All (AllHold t questions) (map (world links) (ns ++ n ∷ []))
push_all links t questions [] n hold one = All-cons (AllHold t questions) (world links n) [] one (All-nil (AllHold t questions))
push_all links t questions (m ∷ ns) n hold one =
    let later = map (world links) ns in
    All-cons (AllHold t questions) (world links m) (map (world links) (ns ++ n ∷ [])) (All-head (AllHold t questions) (world links m) later hold) (push_all links t questions ns n (All-tail (AllHold t questions) (world links m) later hold) one)

-- one network more that meets the questions
pub record OneMore (links : Links) (t : ℕ) (questions : List Question) (base now : Network) (changes : List NetDevice) (i : ℕ) : Type 0 where
  pub network : now ≡ network_after_all base (take i changes)
  pub hold : All (AllHold t questions) (map (world links) (networks base (take i changes)))

pub one_more : (links : Links) (t : ℕ) (questions : List Question) (base : Network) (changes : List NetDevice) (i : ℕ) (d : NetDevice)
    → i < length changes
    → All (AllHold t questions) (map (world links) (networks base (take i changes)))
    → AllHold t questions (world links (network_after (get_or changes i d) (network_after_all base (take i changes))))
    → OneMore links t questions base (network_after (get_or changes i d) (network_after_all base (take i changes))) changes (i + 1)
one_more links t questions base changes i d within hold one =
    let is : take (i + 1) changes ≡ take i changes ++ get_or changes i d ∷ [] = take_more changes i d within in
    let last = after_one_more base (take i changes) (get_or changes i d) in
    let all = push_all links t questions (networks base (take i changes)) (network_after_all base (take i changes ++ get_or changes i d ∷ [])) hold (subst (λ n. AllHold t questions (world links n)) (sym last) one) in
    record {
      network = sym last ∙ ap (network_after_all base) (sym is);
      hold = subst (λ cs. All (AllHold t questions) (map (world links) (networks base cs))) (sym is)
          (subst (λ ns. All (AllHold t questions) (map (world links) ns)) (sym (networks_one_more base (take i changes) (get_or changes i d))) all);
    }
