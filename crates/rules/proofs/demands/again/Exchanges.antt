-- The exchange rules over other octets: they read numbers only of AVPs named Transfer-Request-Type, Transfer-End-Time
-- and Transfer-Start-Time. Where these are the same, so is the outcome.
use mathlib.Core.Path.{◌≡◌, refl, ap}
use Rattle.std.specs.Prelude.{Option, Some, None}
use mathlib.Core.Bool.{true}
use mathlib.Core.List.{List, [], ◌∷◌}
use Prim.Native.Nat.{ℕ, ◌+◌}
use Rattle.rules.specs.declared.Avp.{Avp}
use Rattle.rules.specs.declared.ExchangeRules.{ExchangeRules}
use Rattle.rules.specs.declared.ExchangeRules.TheVariants.{OfRequest, OfAnswer, WindowsAlone}
use Rattle.rules.specs.Octets.{number_at}
use Rattle.rules.specs.Avp.{named, end_of}
use Rattle.rules.specs.Search.{avp_in, first, member}
use Rattle.rules.specs.Exchange.{by_request_type, request_by, request_outcome, window_by, window_in, window_outcome, each_window, exchange_by, exchange_outcome}
use Rattle.rules.proofs.Walk.{by_cases}
use Rattle.rules.proofs.demands.Found.{stands_named, found_named, search_first}

module _ (xs : List Avp) (s t : List ℕ) where
  -- the numbers of AVPs of this code are the same in both
  abbrev pub Numbered : ℕ → Type 0
  Numbered code =
      (i : ℕ) → named (avp_in xs i) 10415 code ≡ true
      → number_at 4 s (avp_in xs i).start ≡ number_at 4 t (avp_in xs i).start

  module _ (types : Numbered 4203) (ends : Numbered 4205) (starts : Numbered 4206) where
    -- what a search finds among the members of a group
    member_number : (code i depth j : ℕ) → Numbered code → member xs i depth 10415 code ≡ Some j
        → number_at 4 s (avp_in xs j).start ≡ number_at 4 t (avp_in xs j).start
    member_number code i depth j h e = h j (found_named depth depth 10415 code xs (i + 1) j e)

    request_by_lem : (end : ℕ) (f : Option ℕ) → first xs 10415 4203 ≡ f → request_by (first xs) xs s end f ≡ request_by (first xs) xs t end f
    request_by_lem end (Some i) e =
        let named-so = stands_named _ _ _ _ ((search_first xs 10415 4203 i).0 e).here in
        ap (by_request_type (first xs) xs end) (types i named-so)
    request_by_lem end None e = refl

    request_same : (end : ℕ) → request_outcome (first xs) xs s end ≡ request_outcome (first xs) xs t end
    unfolding request_outcome
    request_same end = request_by_lem end (first xs 10415 4203) refl

    window_by_lem : (end i depth : ℕ) (f g : Option ℕ) → member xs i depth 10415 4206 ≡ f → member xs i depth 10415 4205 ≡ g
        → window_by xs s end f g ≡ window_by xs t end f g
    window_by_lem end i depth (Some j) (Some k) e h =
        rw (member_number 4206 i depth j starts e, member_number 4205 i depth k ends h)
    window_by_lem end i depth (Some j) None e h = refl
    window_by_lem end i depth None (Some k) e h = refl
    window_by_lem end i depth None None e h = refl

    window_same : (i depth : ℕ) → window_outcome xs s i depth ≡ window_outcome xs t i depth
    unfolding window_in
    window_same i depth =
        window_by_lem (end_of (avp_in xs i)) i depth (member xs i depth 10415 4206) (member xs i depth 10415 4205) refl refl

    windows_same : (i : ℕ) (rest : List Avp) → each_window xs s i rest ≡ each_window xs t i rest
    unfolding each_window
    windows_same i [] = refl
    windows_same i (a ∷ rest) =
        by_cases (named a 10415 4204)
        (λ h. rw (h, window_same i (a.depth + 1), windows_same (i + 1) rest))
        (λ h. rw (h, windows_same (i + 1) rest))

    pub exchange_same : (rules : ExchangeRules) (end : ℕ) → exchange_outcome rules xs s end ≡ exchange_outcome rules xs t end
    unfolding exchange_by
    exchange_same OfRequest end = rw (request_same end, windows_same 0 xs)
    exchange_same OfAnswer end = rw (windows_same 0 xs)
    exchange_same WindowsAlone end = windows_same 0 xs
