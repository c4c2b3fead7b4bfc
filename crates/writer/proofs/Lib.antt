-- The laws behind the writer's answers.
mod Answers
