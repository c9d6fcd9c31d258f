use Rattle.std.proofs.Common.{◌≡◌, ◌≤◌, ◌<◌, ◌++◌, ◌-◌, ℕ, List, [], length, take, drop, ap, ap₂, ◌∙◌, arith, Some, None, Ok, Err}
use Rattle.hb_grpc.specs.Reading.{announced}
use Rattle.hb_grpc.proofs.Steps.{IsHeld, framing, none_told, none_held, fault_told, fault_held, memory_held, partial_told, partial_held, whole_told, whole_held}
use Rattle.hb_grpc.proofs.framer.Framer.feed.Goals as goal

pub returns-in-Ok-None-clause-told : goal.returns-in-Ok-None-clause-told
returns-in-Ok-None-clause-told c =
    let h = c.self.inside.header in
    let p = c.args.piece.now in
    let b = c.self.inside.body.items in
    let held : IsHeld c.self.inside.limit h b =
    record { short = c.fill-rest.ensures.short; body = c.self.invariant } in
    let at_front = ap (announced c.self.inside.limit) (c.as_slice.ensures.value ∙ c.fill-rest.ensures.after) in
    let found : announced c.self.inside.limit (take 5 (h ++ p)) ≡ Ok None = cc in
    rw (← c.self.view_is) (none_told c.self.inside.limit h b p held found)

pub returns-in-Ok-None-clause-after : goal.returns-in-Ok-None-clause-after
returns-in-Ok-None-clause-after c =
    let h = c.self.inside.header in
    let p = c.args.piece.now in
    let b = c.self.inside.body.items in
    let held : IsHeld c.self.inside.limit h b =
    record { short = c.fill-rest.ensures.short; body = c.self.invariant } in
    let at_front = ap (announced c.self.inside.limit) (c.as_slice.ensures.value ∙ c.fill-rest.ensures.after) in
    let found : announced c.self.inside.limit (take 5 (h ++ p)) ≡ Ok None = cc in
    rw (← c.self.view_is) (ap (λ (xs : List ℕ). framing c.self.inside.limit (xs ++ b)) c.fill-rest.ensures.after
    ∙ none_held c.self.inside.limit h b p held found)

pub returns-in-Err-clause-told : goal.returns-in-Err-clause-told
returns-in-Err-clause-told c =
    let h = c.self.inside.header in
    let p = c.args.piece.now in
    let b = c.self.inside.body.items in
    let held : IsHeld c.self.inside.limit h b =
    record { short = c.fill-rest.ensures.short; body = c.self.invariant } in
    let at_front = ap (announced c.self.inside.limit) (c.as_slice.ensures.value ∙ c.fill-rest.ensures.after) in
    let found : announced c.self.inside.limit (take 5 (h ++ p)) ≡ Err c.in-Err.fault = cc in
    rw (← c.self.view_is) (fault_told c.self.inside.limit h b p c.in-Err.fault held found)

pub returns-in-Err-clause-after : goal.returns-in-Err-clause-after
returns-in-Err-clause-after c =
    let h = c.self.inside.header in
    let p = c.args.piece.now in
    let b = c.self.inside.body.items in
    let held : IsHeld c.self.inside.limit h b =
    record { short = c.fill-rest.ensures.short; body = c.self.invariant } in
    let at_front = ap (announced c.self.inside.limit) (c.as_slice.ensures.value ∙ c.fill-rest.ensures.after) in
    let found : announced c.self.inside.limit (take 5 (h ++ p)) ≡ Err c.in-Err.fault = cc in
    let left = c.truncate.ensures ∙ ap (λ (n : ℕ). take n c.fill-rest.new.self) c.told_by.ensures in
    let kept = left ∙ ap (take _) c.fill-rest.ensures.after in
    rw (← c.self.view_is) (ap (λ (xs : List ℕ). framing c.self.inside.limit (xs ++ b)) kept
    ∙ fault_held c.self.inside.limit h b p c.in-Err.fault held found)

pub returns-in_default-clause-after : goal.returns-in_default-clause-after
returns-in_default-clause-after c =
    let h = c.self.inside.header in
    let p = c.args.piece.now in
    let known = ap (λ (xs : List ℕ). length xs) c.as_slice-known.ensures.value in
    let left = c.truncate-in_default.ensures ∙ ap (λ (n : ℕ). take n c.fill-rest.new.self) known
    ∙ ap (take (length h)) c.fill-rest.ensures.after in
    rw (← c.self.view_is) (ap (λ (xs : List ℕ). framing c.self.inside.limit (xs ++ c.fill.new.body.items)) left
    ∙ memory_held c.self.inside.limit h c.self.inside.body.items c.fill.new.body.items p c.fill-rest.ensures.short
    c.in_default.ensures.err)

pub returns-then-len-size-clause-told : goal.returns-then-len-size-clause-told
returns-then-len-size-clause-told c =
    let h = c.self.inside.header in
    let b = c.self.inside.body.items in
    let p = c.args.piece.now in
    let size = c.in-Ok-Some.length in
    let held : IsHeld c.self.inside.limit h b =
    record { short = c.fill-rest.ensures.short; body = c.self.invariant } in
    let at_front = ap (announced c.self.inside.limit) (c.as_slice.ensures.value ∙ c.fill-rest.ensures.after) in
    let found : announced c.self.inside.limit (take 5 (h ++ p)) ≡ Ok (Some size) = cc in
    let grown : c.fill.new.body.items ≡ take size (b ++ drop (5 - length h) p) =
    c.in-Ok.ensures.ok ∙ ap (λ xs. take size (b ++ xs)) c.fill-rest.ensures.rest in
    let behind : c.in-Ok.behind.now ≡ drop (size - length b) (drop (5 - length h) p) =
    c.in-Ok.ensures.rest ∙ ap (drop (size - length b)) c.fill-rest.ensures.rest in
    let few : length (take size (b ++ drop (5 - length h) p)) < size = omega (arith, ap length grown) in
    rw (← c.self.view_is, behind) (partial_told c.self.inside.limit size h b p held found few)

pub returns-then-len-size-clause-after : goal.returns-then-len-size-clause-after
returns-then-len-size-clause-after c =
    let h = c.self.inside.header in
    let b = c.self.inside.body.items in
    let p = c.args.piece.now in
    let size = c.in-Ok-Some.length in
    let held : IsHeld c.self.inside.limit h b =
    record { short = c.fill-rest.ensures.short; body = c.self.invariant } in
    let at_front = ap (announced c.self.inside.limit) (c.as_slice.ensures.value ∙ c.fill-rest.ensures.after) in
    let found : announced c.self.inside.limit (take 5 (h ++ p)) ≡ Ok (Some size) = cc in
    let grown : c.fill.new.body.items ≡ take size (b ++ drop (5 - length h) p) =
    c.in-Ok.ensures.ok ∙ ap (λ xs. take size (b ++ xs)) c.fill-rest.ensures.rest in
    let few : length (take size (b ++ drop (5 - length h) p)) < size = omega (arith, ap length grown) in
    rw (← c.self.view_is) (ap₂ (λ (xs ys : List ℕ). framing c.self.inside.limit (xs ++ ys)) c.fill-rest.ensures.after grown
    ∙ partial_held c.self.inside.limit size h b p held found few)

pub returns-clause-told : goal.returns-clause-told
returns-clause-told c =
    let h = c.self.inside.header in
    let b = c.self.inside.body.items in
    let p = c.args.piece.now in
    let size = c.in-Ok-Some.length in
    let held : IsHeld c.self.inside.limit h b =
    record { short = c.fill-rest.ensures.short; body = c.self.invariant } in
    let at_front = ap (announced c.self.inside.limit) (c.as_slice.ensures.value ∙ c.fill-rest.ensures.after) in
    let found : announced c.self.inside.limit (take 5 (h ++ p)) ≡ Ok (Some size) = cc in
    let grown : c.fill.new.body.items ≡ take size (b ++ drop (5 - length h) p) =
    c.in-Ok.ensures.ok ∙ ap (λ xs. take size (b ++ xs)) c.fill-rest.ensures.rest in
    let behind : c.in-Ok.behind.now ≡ drop (size - length b) (drop (5 - length h) p) =
    c.in-Ok.ensures.rest ∙ ap (drop (size - length b)) c.fill-rest.ensures.rest in
    let many : size ≤ length (take size (b ++ drop (5 - length h) p)) = omega (arith, ap length grown) in
    let message : c.from_vec.result ≡ take size (b ++ drop (5 - length h) p) =
    c.from_vec.ensures ∙ ap (λ v. v.items) c.replace-message.ensures.value ∙ grown in
    rw (← c.self.view_is, behind, message) (whole_told c.self.inside.limit size h b p held found many)

pub returns-clause-after : goal.returns-clause-after
returns-clause-after c =
    let h = c.self.inside.header in
    let b = c.self.inside.body.items in
    let p = c.args.piece.now in
    let size = c.in-Ok-Some.length in
    let held : IsHeld c.self.inside.limit h b =
    record { short = c.fill-rest.ensures.short; body = c.self.invariant } in
    let at_front = ap (announced c.self.inside.limit) (c.as_slice.ensures.value ∙ c.fill-rest.ensures.after) in
    let found : announced c.self.inside.limit (take 5 (h ++ p)) ≡ Ok (Some size) = cc in
    let grown : c.fill.new.body.items ≡ take size (b ++ drop (5 - length h) p) =
    c.in-Ok.ensures.ok ∙ ap (λ xs. take size (b ++ xs)) c.fill-rest.ensures.rest in
    let many : size ≤ length (take size (b ++ drop (5 - length h) p)) = omega (arith, ap length grown) in
    let empty : c.replace-message.new.dest.items ≡ [] = ap (λ v. v.items) c.replace-message.ensures.after ∙ c.new.ensures.items in
    rw (← c.self.view_is) (ap₂ (λ (xs ys : List ℕ). framing c.self.inside.limit (xs ++ ys)) c.truncate-2.ensures empty
    ∙ whole_held c.self.inside.limit size h b p held found many)
