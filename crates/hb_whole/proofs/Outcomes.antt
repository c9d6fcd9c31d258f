-- What holds where a call answers Ok.
use Rattle.std.proofs.Common.{Result, Ok, Err, IfOk, OnOk}

pub on_ok : {T E : Type 0} (r : Result T E) (A B : Type 0) → (A → B) → OnOk r A → OnOk r B
on_ok (Ok x) A B makes had = makes had
on_ok (Err why) A B makes had = tt

pub if_ok : {T E : Type 0} (r : Result T E) (A B : Type 0) → (A → B) → IfOk r (λ x. A) → OnOk r B
if_ok (Ok x) A B makes had = makes had
if_ok (Err why) A B makes had = tt

pub three_ok : {T E : Type 0} (r : Result T E) (A B C D : Type 0) → (A → B → C → D) → OnOk r A → OnOk r B → OnOk r C → OnOk r D
three_ok (Ok x) A B C D makes first second third = makes first second third
three_ok (Err why) A B C D makes first second third = tt

pub two_ok : {T E : Type 0} (r : Result T E) (A B C : Type 0) → (A → B → C) → OnOk r A → OnOk r B → OnOk r C
two_ok (Ok x) A B C makes first second = makes first second
two_ok (Err why) A B C makes first second = tt
