-- What a call reads of the buffer: the octets held, and none behind them. Above the theorem: the words of request [7]
-- that it meets, what carries it, and two wrong systems that it rules out.
use mathlib.Core.Path.{◌≡◌, sym, ap, ◌∙◌}
use mathlib.Core.List.{List}
use Prim.Native.Nat.{ℕ, ◌≤◌}
use native.Mathlib.Omega.{arith}
use borrow.Author.Tests.{ltb-false}
use lib.Dec.{ltb}
use lib.ListN.{length, take}
use lib.Seq.{take-take}
use Rattle.rules.specs.Header.{length_field, longest_command}
use Rattle.rules.proofs.Walk.{by_cases}
use Rattle.fragments.specs.declared.State.{State}
use Rattle.fragments.specs.Link.{field_end, is_usable, taken_of, onward, held_in, step}
use Rattle.fragments.proofs.Goals.{field_of_start}
use Rattle.fragments.proofs.Calls.{step_onward, step_7009}

module _ (st : State) (fragment buffer buffer' : List ℕ) (room : longest_command ≤ length buffer)
    (room' : longest_command ≤ length buffer') (same : held_in st buffer ≡ held_in st buffer')
  where
    same_field : field_end ≤ st.held → length_field buffer ≡ length_field buffer'
    same_field four =
        sym (field_of_start field_end buffer (omega arith) (omega arith))
        ∙ ap length_field
        (sym (take-take field_end st.held buffer four)
        ∙ ap (take field_end) same
        ∙ take-take field_end st.held buffer' four)
        ∙ field_of_start field_end buffer' (omega arith) (omega arith)

    same_usable : is_usable st buffer ≡ is_usable st buffer'
    unfolding is_usable
    same_usable =
        by_cases (ltb st.held field_end) (λ few. rw few)
        (λ four. rw (four, same_field (ltb-false _ _ four)))

    same_onward : onward st fragment buffer ≡ onward st fragment buffer'
    unfolding onward taken_of
    same_onward = rw same

    -- "a state whose held octets, from four on, are not short of a length field ... in the buffer": of a buffer a call
    -- reads the octets held alone, in every state; what two buffers have behind them does not count.
    -- Carried by same_field: a length field is read from four octets on, so of those held.
    -- Ruled out: a reader that reads the length field in the buffer before four octets are held; one that tells by the
    -- octet behind those held whether a command goes on.
    pub behind_held_unread : step st fragment buffer ≡ step st fragment buffer'
    behind_held_unread =
        by_cases (is_usable st buffer)
        (λ u.
        step_onward st fragment buffer room u
        ∙ same_onward
        ∙ sym (step_onward st fragment buffer' room' (sym same_usable ∙ u)))
        (λ u.
        step_7009 st fragment buffer room u
        ∙ sym (step_7009 st fragment buffer' room' (sym same_usable ∙ u)))
