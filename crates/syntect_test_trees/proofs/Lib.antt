mod FailingLaws
mod FakeLaws
