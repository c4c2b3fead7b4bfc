-- Request [9]: the exchange rules go by the number of policies. Which answers without E are refused for 4202 and for
-- 2207, and that no other is. The claims stand in rules/specs/Policies.
use mathlib.Core.Path.{◌≡◌}
use mathlib.Core.Bool.{cond}
use mathlib.Core.List.{List}
use Prim.Native.Nat.{ℕ, ◌≤◌}
use native.Mathlib.Omega.{arith}
use borrow.Author.Tests.{le-leb, lt-leb, ltb-true, ltb-false}
use lib.Dec.{ltb, leb}
use lib.ListN.{length}
use Rattle.rules.specs.declared.Avp.{Avp}
use Rattle.rules.specs.Verdict.{refused, verdict, no_refusal}
use Rattle.rules.specs.Search.{first, how_many}
use Rattle.rules.specs.Exchange.{require, result_outcome, policy_number, policies_outcome, each_policy, answer_outcome}
use Rattle.rules.specs.Command.{of_answer, command_rules, command_verdict}
use Rattle.rules.specs.Order.{exchange}
use Rattle.rules.specs.Policies.{IsAnswer, Offers, Unreferenced, Unaddressed, Equipped}
use Rattle.rules.specs.Volumes.{Has}
use Rattle.rules.proofs.Walk.{by_cases}
use Rattle.rules.proofs.demands.Found.{search_number, search_first, search_absent}
use Rattle.rules.proofs.demands.Order.{demand_2_first_fault}
use Rattle.rules.proofs.demands.ErrorAnswers.{request_1_kinds}

-- what an answer without E is judged by
answer_rules : (c : List ℕ) → IsAnswer c → command_rules c ≡ of_answer
answer_rules c a = (request_1_kinds c).answer a.not_request a.without_error

module _ (c : List ℕ) (xs : List Avp) where
  -- the number that the search tells
  number_is : (least : ℕ) → Offers c xs least → least ≤ policy_number xs
  number_is least o = omega (arith, search_number xs 10415 4207 0, o.policies)

  unreferenced : Unreferenced c xs → exchange c xs ≡ refused 5005 (length c) 10415 4202
  unfolding answer_outcome policies_outcome
  unreferenced u =
      let o = u.offers in
      rw (
        answer_rules c o.answer,
        o.result,
        le-leb 1 (policy_number xs) (number_is 1 o),
        (search_absent xs 10415 4202).1 u.reference,
      )

  unaddressed : Unaddressed c xs → exchange c xs ≡ refused 5005 (length c) 10415 2207
  unfolding answer_outcome policies_outcome
  unaddressed u =
      let o = u.offers in
      let two = number_is 2 o in
      rw (
        answer_rules c o.answer,
        o.result,
        le-leb 1 (policy_number xs) (omega arith),
        (search_first xs 10415 4202 u.reference.0).1 u.reference.1,
        le-leb 2 (policy_number xs) two,
        (search_absent xs 10415 2207).1 u.address,
      )

  -- 01: "With any 4207: 4202, else 5005".
  -- Carried by demand_2_first_fault (Order), search_number and search_absent (Found).
  -- Ruled out: a reader that asks for 4202 with two policies only, or that counts none.
  pub request_9_reference : Unreferenced c xs → command_verdict c ≡ verdict 5005 (length c) 10415 4202
  request_9_reference u =
      let o = u.offers in
      ((demand_2_first_fault c).lists xs o.header o.walk).rules _ o.own o.groups (unreferenced u)

  -- 01: "With two or more: 2207, else 5005".
  -- Carried by demand_2_first_fault (Order), search_number, search_first and search_absent (Found).
  -- Ruled out: a reader that asks for 2207 with three policies only, or with exactly two.
  pub request_9_address : Unaddressed c xs → command_verdict c ≡ verdict 5005 (length c) 10415 2207
  request_9_address u =
      let o = u.offers in
      ((demand_2_first_fault c).lists xs o.header o.walk).rules _ o.own o.groups (unaddressed u)

  -- what is there passes, whatever the number
  module _ (q : Equipped xs) (end : ℕ) where
    has : {vendor code : ℕ} → Has xs vendor code → require (first xs) end vendor code ≡ no_refusal
    has h = rw ((search_first xs _ _ h.0).1 h.1)

    number : policy_number xs ≡ how_many 1 10415 4207 xs
    number = search_number xs 10415 4207 0

    referenced : cond (leb 1 (policy_number xs)) (require (first xs) end 10415 4202) no_refusal ≡ no_refusal
    referenced =
        by_cases (ltb (policy_number xs) 1)
        (λ h. rw (lt-leb 1 (policy_number xs) (ltb-true _ _ h)))
        (λ h.
        let some = ltb-false _ _ h in
        rw (le-leb 1 (policy_number xs) some) (has (q.reference (omega (arith, some, number)))))

    addressed : cond (leb 2 (policy_number xs)) (require (first xs) end 10415 2207) no_refusal ≡ no_refusal
    addressed =
        by_cases (ltb (policy_number xs) 2)
        (λ h. rw (lt-leb 2 (policy_number xs) (ltb-true _ _ h)))
        (λ h.
        let more = ltb-false _ _ h in
        rw (le-leb 2 (policy_number xs) more) (has (q.address (omega (arith, more, number)))))

  -- 01: nothing else is asked for by the number of policies; what is left is what each of them holds.
  -- Carried by search_number and search_first (Found).
  -- Ruled out: a reader that asks for 2207 with one policy, or for 4202 with none.
  pub request_9_asked : IsAnswer c → result_outcome (first xs) xs (length c) ≡ no_refusal
      → Equipped xs → exchange c xs ≡ each_policy xs
  unfolding answer_outcome policies_outcome
  request_9_asked answer result q =
      rw (answer_rules c answer, result, referenced q (length c), addressed q (length c))
